-- Actors with their shares of a run. This project's own.
use Rattle.std.specs.Prelude.{ℕ, ◌≡◌, ◌<◌, ◌≤◌, ◌+◌, ◌*◌, ◌++◌, List, [], Option, Some, None, length}
use Rattle.std.specs.Arc.{arc_value}
use Rattle.std.specs.List.{slice_index_or}
use Rattle.std.specs.declared.sync.Arc.{Arc}
use Rattle.std.specs.Global.{Global}
use Rattle.vq_model.specs.declared.plan.AnswerLine.{AnswerLine}
use Rattle.vq_model.specs.declared.script.ActorName.{ActorName}
use Rattle.vq_model.specs.declared.script.ActorName.TheVariants.{Host as HostActor, Submit as SubmitActor}
use Rattle.vq_model.specs.declared.script.ActorName.TheVariants.{Ring as RingActor}
use Rattle.vq_model.specs.Outputs.{IsOutput}
use Rattle.vq_model.specs.OutputText.{answer_text, buffers_text}
use Rattle.vq_model.specs.Plan.{Plan}
use Rattle.vq_model.specs.SlowRun.{final}
use Rattle.vq_turns.specs.declared.outcome.Outcome.{Outcome}
use Rattle.vq_turns.specs.declared.outcome.Outcome.TheVariants.{Ended as HasEnded}
use Rattle.vq_shared_run.specs.declared.answers.Look.{Look}
use Rattle.vq_shared_run.specs.declared.answers.Look.TheVariants.{Finished as AllFinished, Unfinished as StillUnfinished}
use Rattle.vq_shared_run.specs.declared.answers.Look.TheVariants.{NotHost as NoHostAsked}
use Rattle.vq_shared_run.specs.declared.answers.Shut.{Shut}
use Rattle.vq_shared_run.specs.declared.answers.Shut.TheVariants.{Closed, Unfinished, Shared, NotHost}
use Rattle.vq_shared_run.specs.declared.run.Run.{Run}
use Rattle.vq_shared_run.specs.declared.player.Player.{Player}
use Rattle.vq_shared_run.specs.declared.player.Player.TheVariants.{Playing as IsPlaying, Left as HasLeft}
use Rattle.vq_shared_run.specs.declared.player.Playing.{Playing}
use Rattle.vq_shared_run.specs.declared.stand.Stand.{Stand}
use Rattle.vq_shared_run.specs.declared.stand.Stand.TheVariants.{Worker, Host, Ended}
use Rattle.vq_shared_run.specs.Shown.{LeftOver, Watched}
use Rattle.vq_shared_run.specs.Stands.{HasLooked, IsTurnOf}

-- the run that an actor has a share of
abbrev pub run_of : Playing → Run
run_of p = arc_value p.run

-- the plan of the run
abbrev pub ordered_of : Player → Plan
ordered_of (IsPlaying p) = (run_of p).ordered
ordered_of (HasLeft l) = l.ordered

-- which actor it is; the host closes the run
abbrev pub actor_at : Stand → ActorName
actor_at (Worker r) = r.owner
actor_at (Host l) = HostActor
actor_at (Ended w) = HostActor

abbrev pub actor_of : Player → ActorName
actor_of (IsPlaying p) = actor_at p.stand
actor_of (HasLeft l) = HostActor

-- the number of an actor: the host's is 0, and each queue has two
abbrev pub number_of : ActorName → ℕ
number_of HostActor = 0
number_of (SubmitActor q) = 2 * q + 1
number_of (RingActor q) = 2 * q + 2

-- the answers that the host has told so far
abbrev pub answers_at : Stand → Option (List AnswerLine)
answers_at (Worker r) = None
answers_at (Host l) = Some l.answers.items
answers_at (Ended w) = Some w.answers

abbrev pub answers_of : Player → Option (List AnswerLine)
answers_of (IsPlaying p) = answers_at p.stand
answers_of (HasLeft l) = Some l.answers

-- Turns and looks

-- A turn of the actor, on the same run; and none, where the board is closed.
abbrev pub IsTurnBy : Player → Player → Outcome → Type 0
IsTurnBy (IsPlaying p) (IsPlaying q) o = (q.run ≡ p.run) × IsTurnOf (run_of p).ordered p.stand q.stand o
IsTurnBy (HasLeft l) (HasLeft m) o = (m ≡ l) × (o ≡ HasEnded)
IsTurnBy x y o = ⊥

-- A look of the actor, on the same run. Where the board is closed, all jobs are finished.
abbrev pub IsLookBy : Player → Player → Look → Type 0
IsLookBy (IsPlaying p) (IsPlaying q) look =
    (q.run ≡ p.run) × HasLooked (run_of p).board p.stand q.stand look
IsLookBy (HasLeft l) (HasLeft m) look = (m ≡ l) × (look ≡ AllFinished)
IsLookBy x y look = ⊥

-- The end

-- The host has seen all jobs finished: it closed the board, or others have shares still.
abbrev pub HasShutBy : Arc Run Global → Watched → Player → Shut → Type 0
HasShutBy g w (HasLeft l) Closed = (l.ordered ≡ (arc_value g).ordered) × (l.answers ≡ w.answers)
HasShutBy g w (IsPlaying p) Shared = (p.run ≡ g) × (p.stand ≡ Ended w)
HasShutBy g w x shut = ⊥

-- The board is closed, with the answers that the host has told; or the host looked and found a job unfinished, or none
-- and others have shares still; or another actor was asked, and nothing was done.
abbrev pub HasShut : Player → Player → Shut → Type 0
HasShut (IsPlaying p) (HasLeft l) Closed =
    (l.ordered ≡ (run_of p).ordered) × (Some l.answers ≡ answers_at p.stand)
HasShut (IsPlaying p) (IsPlaying q) Unfinished =
    (q.run ≡ p.run) × HasLooked (run_of p).board p.stand q.stand StillUnfinished
HasShut (IsPlaying p) (IsPlaying q) Shared =
    (q.run ≡ p.run) × HasLooked (run_of p).board p.stand q.stand AllFinished
HasShut (IsPlaying p) (IsPlaying q) NotHost =
    (q.run ≡ p.run) × HasLooked (run_of p).board p.stand q.stand NoHostAsked
HasShut (HasLeft l) (HasLeft m) Closed = m ≡ l
HasShut x y shut = ⊥

-- The run has left these bytes in the buffer, and with the answers all its buffers are an output of the plan.
pub record IsLeftBy (l : LeftOver) (n : ℕ) (bytes : List ℕ) : Type 0 where
  pub exists : n < length (final l.ordered)
  pub left : bytes ≡ slice_index_or (final l.ordered) n []
  pub output : IsOutput l.ordered
      (answer_text l.answers ++ buffers_text l.ordered.script.buffers (final l.ordered))

abbrev pub IsLeftIn : Player → ℕ → List ℕ → Type 0
IsLeftIn (IsPlaying p) n bytes = ⊥
IsLeftIn (HasLeft l) n bytes = IsLeftBy l n bytes

-- the board isn't closed, or the plan has no such buffer
abbrev pub HasNotLeft : Player → ℕ → Type 0
HasNotLeft (IsPlaying p) n = Unit {0}
HasNotLeft (HasLeft l) n = length (final l.ordered) ≤ n
