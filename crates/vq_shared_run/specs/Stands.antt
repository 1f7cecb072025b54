-- What an actor of a shared run is at, a turn of it, and its look for the end. This project's own.
use Rattle.std.specs.Prelude.{◌≡◌, ◌≤◌, ◌++◌, length}
use Rattle.std.proofs.Props.{props}
use Rattle.vq_model.specs.declared.script.ActorName.{ActorName}
use Rattle.vq_model.specs.declared.script.ActorName.TheVariants.{Host as HostActor, Submit as SubmitActor}
use Rattle.vq_model.specs.declared.script.ActorName.TheVariants.{Ring as RingActor}
use Rattle.vq_model.specs.declared.script.Script.{Script}
use Rattle.vq_model.specs.Outputs.{asking}
use Rattle.vq_model.specs.Plan.{Plan}
use Rattle.vq_model.specs.ValidScripts.{IsActor}
use Rattle.vq_turns.specs.declared.outcome.Outcome.{Outcome}
use Rattle.vq_turns.specs.declared.outcome.Outcome.TheVariants.{Ended as HasEnded}
use Rattle.vq_board.specs.declared.parts.Board.{Board}
use Rattle.vq_board.specs.declared.parts.Pass.{Pass}
use Rattle.vq_board.specs.Named.{plan_of, view, IsOf}
use Rattle.vq_board_run.specs.Rooming.{IsRoomTurn, Room, ShowsBlocked, TellsBy, view_of}
use Rattle.vq_board_run.specs.Answered.{AreToldBy, FindsUnfinished, answer_by, lines_of}
use Rattle.vq_board_run.specs.Crewed.{IsWorkerOf, MayLead}
use Rattle.vq_shared_run.specs.declared.answers.Look.{Look}
use Rattle.vq_shared_run.specs.declared.answers.Look.TheVariants.{Finished, Unfinished, NotHost}
use Rattle.vq_shared_run.specs.declared.stand.Stand.{Stand}
use Rattle.vq_shared_run.specs.declared.stand.Stand.TheVariants.{Worker, Host, Ended}
use Rattle.vq_shared_run.specs.Shown.{Watched}

-- the pass is the host's at the board, and these are the answers that it told
pub record IsWatch (b : Board) (w : Watched) : Type 0 where
  pub board : IsOf b w.pass
  pub role : (view w.pass).role ≡ 0
  pub within : w.seen ≤ length (plan_of b).jobs
  pub lines : AreToldBy b w.pass w.answers
  pub few : length w.answers ≤ length (asking (plan_of b))

-- what the actor is at is the board's
abbrev pub IsAt : Board → Stand → Type 0
IsAt b (Worker r) = IsWorkerOf b r
IsAt b (Host l) = MayLead b l
IsAt b (Ended w) = IsWatch b w

-- at most one way to be so
actor_prop : (s : Script) (a : ActorName) → IsProp (IsActor s a)
actor_prop s HostActor = Prim.hlevel
actor_prop s (SubmitActor q) = Prim.hlevel props
actor_prop s (RingActor q) = Prim.hlevel props

pub at_prop : (b : Board) (s : Stand) → IsProp (IsAt b s)
at_prop b (Worker r) = Prim.hlevel (props, actor_prop (plan_of b).script r.owner)
at_prop b (Host l) = Prim.hlevel props
at_prop b (Ended w) = Prim.hlevel props

-- Turns

-- One turn in a room: it is one of its actor, with the event or the want shown since its start. The room stays its
-- actor's, answers are told where the outcome is one, and where it is a want, the room shows that.
pub record IsTurnIn (p : Plan) (r s : Room) (o : Outcome) : Type 0 where
  pub turn : IsRoomTurn p r s o
  pub owner : s.owner ≡ r.owner
  pub told : TellsBy (view_of r) (view_of s) o
  pub shown : ShowsBlocked r s o

-- One turn of an actor of a run of the plan. The host keeps its answers, and watches once its program has ended.
abbrev pub IsTurnOf : Plan → Stand → Stand → Outcome → Type 0
IsTurnOf p (Worker r) (Worker s) o = IsTurnIn p r s o
IsTurnOf p (Host l) (Host m) o =
    IsTurnIn p l.room m.room o × (m.answers.items ≡ l.answers.items ++ lines_of p (answer_by o))
IsTurnOf p (Host l) (Ended w) o =
    (o ≡ HasEnded) × (w.answers ≡ l.answers.items) × (w.seen ≡ 0)
    × ((s : Room) × (w.pass ≡ s.pass) × IsTurnIn p l.room s o)
IsTurnOf p (Ended v) (Ended w) o = (o ≡ HasEnded) × (w ≡ v)
IsTurnOf p s t o = ⊥

-- Looks

-- all jobs were seen finished
pub record SawAll (b : Board) (v w : Watched) : Type 0 where
  pub all : w.seen ≡ length (plan_of b).jobs
  pub answers : w.answers ≡ v.answers

-- the first job that wasn't seen finished was looked at, and isn't
pub record SawUnfinished (v w : Watched) : Type 0 where
  pub answers : w.answers ≡ v.answers
  pub found : (x : Pass) × FindsUnfinished x w.pass w.seen

-- The host looks once its program has ended. Nothing else changes.
abbrev pub HasLooked : Board → Stand → Stand → Look → Type 0
HasLooked b (Ended v) (Ended w) Finished = SawAll b v w
HasLooked b (Ended v) (Ended w) Unfinished = SawUnfinished v w
HasLooked b (Host l) (Host m) Unfinished = m ≡ l
HasLooked b (Worker r) (Worker s) NotHost = s ≡ r
HasLooked b s t other = ⊥
