-- The job that an actor runs, as its tasks say, and tasks that run one job after another. This project's own.
use Rattle.std.specs.Prelude.{ℕ, suc, ◌≡◌, ◌<◌, List, [], ◌∷◌, Option, Some, None, length}
use Rattle.std.specs.List.{slice_get}
use Rattle.vq_model.specs.declared.plan.Lane.TheVariants.{Host as HostLane, Queue as QueueLane}
use Rattle.vq_model.specs.declared.script.ActorName.{ActorName}
use Rattle.vq_model.specs.declared.script.ActorName.TheVariants.{Host as HostActor, Submit as SubmitActor}
use Rattle.vq_model.specs.declared.script.ActorName.TheVariants.{Ring as RingActor}
use Rattle.vq_model.specs.Plan.{Plan, commands_of, signals_of}
use Rattle.vq_turns.specs.declared.task.Task.{Task}
use Rattle.vq_turns.specs.declared.task.Task.TheVariants.{Start, Apply, Signal, Answer, Finish}
use Rattle.vq_turn_laws.specs.PlanParts.{lane_of_job}

-- a job that is started and not finished, with how many of its commands are applied and of its signals made
pub record Running : Type 0 where
  pub job : ℕ
  pub commands : ℕ
  pub signals : ℕ

-- what is run after a task
abbrev pub runs_on : Task → Option Running → Option Running
runs_on (Start j) r = Some (record { job = j; commands = 0; signals = 0 })
runs_on (Finish j) r = None
runs_on (Apply j c) None = None
runs_on (Apply j c) (Some x) = Some (record x { commands = suc x.commands })
runs_on (Signal e) None = None
runs_on (Signal e) (Some x) = Some (record x { signals = suc x.signals })
runs_on other r = r

-- what is run behind these tasks, the latest of which stands first
abbrev pub runs_after : List Task → Option Running
runs_after [] = None
runs_after (t ∷ ts) = runs_on t (runs_after ts)

-- the jobs that an actor runs: those of its lane
abbrev pub IsRunnerOf : Plan → ActorName → ℕ → Type 0
IsRunnerOf p HostActor j = (j < length p.jobs) × (lane_of_job p j ≡ HostLane)
IsRunnerOf p (RingActor q) j = (j < length p.jobs) × (lane_of_job p j ≡ QueueLane q)
IsRunnerOf p (SubmitActor q) j = ⊥

-- A task comes in turn: where nothing is run a job is started that may be run; of the job that is run the next
-- command is applied, behind all commands the next signal is made, the question is answered, and behind all
-- commands and signals it is finished.
abbrev pub InTurn : Plan → (ℕ → Type 0) → Task → Option Running → Type 0
InTurn p MayRun (Start j) r = (r ≡ None) × MayRun j
InTurn p MayRun (Apply j c) None = ⊥
InTurn p MayRun (Apply j c) (Some x) = (x.job ≡ j) × (slice_get (commands_of p j) x.commands ≡ Some c)
InTurn p MayRun (Signal e) None = ⊥
InTurn p MayRun (Signal e) (Some x) =
    (x.commands ≡ length (commands_of p x.job)) × (slice_get (signals_of p x.job) x.signals ≡ Some e)
InTurn p MayRun (Answer j asks) None = ⊥
InTurn p MayRun (Answer j asks) (Some x) = x.job ≡ j
InTurn p MayRun (Finish j) None = ⊥
InTurn p MayRun (Finish j) (Some x) =
    (x.job ≡ j)
    × (x.commands ≡ length (commands_of p j))
    × (x.signals ≡ length (signals_of p j))
    × MayRun j
InTurn p MayRun other r = Unit {0}

-- each task comes in turn, behind those before it
abbrev pub RunInTurn : Plan → (ℕ → Type 0) → Option Running → List Task → Type 0
RunInTurn p MayRun r [] = Unit {0}
RunInTurn p MayRun r (t ∷ ts) = InTurn p MayRun t r × RunInTurn p MayRun (runs_on t r) ts
