-- An actor and its turns. This project's own.
use Rattle.std.specs.Prelude.{ℕ, ◌≡◌, List, [], ◌∷◌, Some, None}
use Rattle.vq_model.specs.declared.plan.Event.{Event}
use Rattle.vq_model.specs.Plan.{Plan}
use Rattle.vq_model.specs.declared.script.ActorName.{ActorName}
use Rattle.vq_point_laws.specs.Points.{PointState}
use Rattle.vq_turns.specs.declared.task.Task.{Task}
use Rattle.vq_turns.specs.declared.outcome.Want.{Want}
use Rattle.vq_turns.specs.declared.outcome.Outcome.{Outcome}
use Rattle.vq_turns.specs.declared.outcome.Outcome.TheVariants.{Moved, Blocked, Ended}
use Rattle.vq_turns.specs.Programs.{program}
use Rattle.vq_turns.specs.Turns.{turn_of, world_after}
use Rattle.vq_actor.specs.Meanings.{Meaning, Keeps, IsShownSince, next_task, noting}

-- an actor: its name, and the tasks of its program
pub record Acting : Type 0 where
  pub name : ActorName
  pub tasks : List Task

-- the actor of a plan with this name
abbrev pub acting_of : Plan → ActorName → Acting
acting_of p a = record { name = a; tasks = program p a }

-- An actor is the one that an access serves: it has the access's program.
pub record IsServed (x : Acting) (m : Meaning) : Type 0 where
  pub name : x.name ≡ m.actor
  pub tasks : x.tasks ≡ program m.plan m.actor

-- the event that an outcome adds to those that were made
abbrev pub events_by : Outcome → List Event
events_by (Moved event) = event ∷ []
events_by other = []

-- A turn. Where the state is told, its outcome and the place after it are those of its definition, and the
-- state after it is that after the outcome's event. What it came to, an event or a want, is shown since the
-- turn's start. It is `Ended` only where no task is left.
pub record IsTurn (old new : Meaning) (shows : Outcome → ℕ × ℕ → Type 0) (outcome : Outcome) : Type 0 where
  pub kept : Keeps old new
  pub events : new.events ≡ noting old (events_by outcome)
  pub named : (w : PointState) → old.state ≡ Some w →
      (record { outcome = outcome; place = new.place } ≡ turn_of old.plan w old.actor old.place)
      × (new.state ≡ Some (world_after old.plan w outcome))
  pub made : (event : Event) → outcome ≡ Moved event → IsShownSince old.steps (shows (Moved event))
  pub shown : (want : Want) → outcome ≡ Blocked want → IsShownSince old.steps (shows (Blocked want))
  pub ended : outcome ≡ Ended → next_task new ≡ None
