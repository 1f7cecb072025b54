-- What one task of a turn comes to. Steps of proofs.
use Rattle.std.specs.Prelude.{ℕ, ◌≡◌, ◌+◌, Bool, true, false, List, [], Option, Some, None, Result, Ok, Err}
use Rattle.vq_model.specs.declared.plan.Event.{Event}
use Rattle.vq_model.specs.declared.plan.Need.{Need}
use Rattle.vq_model.specs.Plan.{Plan}
use Rattle.vq_point_laws.specs.Points.{PointState}
use Rattle.vq_turns.specs.declared.task.Task.{Task}
use Rattle.vq_turns.specs.declared.task.Task.TheVariants.{AwaitSubmitted, AwaitReleased, AwaitFinished, AwaitBound}
use Rattle.vq_turns.specs.declared.task.Task.TheVariants.{AwaitNeeds, Compare}
use Rattle.vq_turns.specs.declared.outcome.Want.{Want}
use Rattle.vq_turns.specs.declared.outcome.Outcome.{Outcome}
use Rattle.vq_turns.specs.declared.outcome.Outcome.TheVariants.{Moved, Blocked, Ended}
use Rattle.vq_turns.specs.Turns.{Place, Did, GoesOn as GoesOnAt, Ends as EndsAt, does, one_need, held_for, world_after}
use Rattle.vq_actor.specs.declared.doing.Doing.{Doing}
use Rattle.vq_actor.specs.declared.doing.Doing.TheVariants.{GoesOn, Ends}
use Rattle.vq_actor.specs.Meanings.{Meaning, Keeps, IsShownSince, noting}
use Rattle.vq_actor.specs.Actors.{events_by}

-- What a task comes to

abbrev pub outcome_of : Doing → Option Outcome
outcome_of GoesOn = None
outcome_of (Ends o) = Some o

abbrev pub did_of : Doing → Place → Did
did_of GoesOn x = GoesOnAt x
did_of (Ends o) x = EndsAt o x

abbrev pub world_left : Plan → PointState → Doing → PointState
world_left p w GoesOn = w
world_left p w (Ends o) = world_after p w o

abbrev pub events_by_task : Doing → List Event
events_by_task GoesOn = []
events_by_task (Ends o) = events_by o

-- where a turn goes on one task more is done
abbrev pub GoesFurther : Doing → Place → Place → Type 0
GoesFurther GoesOn x y = y.done ≡ x.done + 1
GoesFurther (Ends o) x y = Unit {0}

-- whether a task makes an event whenever it is done
abbrev pub makes_event : Task → Bool
makes_event (AwaitSubmitted j) = false
makes_event (AwaitReleased j) = false
makes_event (AwaitFinished j) = false
makes_event (AwaitBound e) = false
makes_event (AwaitNeeds ns) = false
makes_event (Compare t v) = false
makes_event other = true

-- a turn goes on after no task that makes an event
abbrev pub IsQuiet : Doing → Task → Type 0
IsQuiet GoesOn t = makes_event t ≡ false
IsQuiet (Ends o) t = Unit {0}

-- A task was done, or ended the turn.
pub record DidTo (a b : Meaning) (t : Task) (shows : Outcome → ℕ × ℕ → Type 0) (did : Doing) : Type 0 where
  pub kept : Keeps a b
  pub events : b.events ≡ noting a (events_by_task did)
  pub further : GoesFurther did a.place b.place
  pub quiet : IsQuiet did t
  pub state : (w : PointState) → a.state ≡ Some w →
      (does a.plan w a.actor a.place t ≡ did_of did b.place) × (b.state ≡ Some (world_left a.plan w did))
  pub made : (event : Event) → outcome_of did ≡ Some (Moved event) → IsShownSince a.steps (shows (Moved event))
  pub shown : (want : Want) → outcome_of did ≡ Some (Blocked want) → IsShownSince a.steps (shows (Blocked want))
  pub unended : outcome_of did ≡ Some Ended → ⊥

-- Waits

-- A need of a wait was met, or an event made for it, or a call refused: that is what the task comes to.
pub record DidNeed (a b : Meaning) (k : ℕ) (n : Need) (shows : Outcome → ℕ × ℕ → Type 0) (did : Doing) : Type 0 where
  pub kept : Keeps a b
  pub events : b.events ≡ noting a (events_by_task did)
  pub further : GoesFurther did a.place b.place
  pub state : (w : PointState) → a.state ≡ Some w →
      ((next_need : Option Want → Did) (want : Option Want) →
      one_need a.plan w a.actor a.place k n (held_for k a.place.holding) next_need want ≡ did_of did b.place)
      × (b.state ≡ Some (world_left a.plan w did))
  pub made : (event : Event) → outcome_of did ≡ Some (Moved event) → IsShownSince a.steps (shows (Moved event))
  pub shown : (want : Want) → outcome_of did ≡ Some (Blocked want) → IsShownSince a.steps (shows (Blocked want))
  pub unended : outcome_of did ≡ Some Ended → ⊥

-- A need isn't met yet, and the next one is looked for.
pub record PassedNeed (a b : Meaning) (k : ℕ) (n : Need) (shows : Outcome → ℕ × ℕ → Type 0)
    (want : Want) : Type 0 where
  pub kept : Keeps a b
  pub place : b.place ≡ a.place
  pub events : b.events ≡ a.events
  pub is_state : (w : PointState) → a.state ≡ Some w → b.state ≡ Some w
  pub state : (w : PointState) → a.state ≡ Some w → (next_need : Option Want → Did) (before : Option Want) →
      one_need a.plan w a.actor a.place k n (held_for k a.place.holding) next_need before ≡ next_need (Some want)
  pub shown : IsShownSince a.steps (shows (Blocked want))

-- what a need comes to
abbrev pub AskedNeed : Meaning → Meaning → ℕ → Need → (Outcome → ℕ × ℕ → Type 0) → Result Doing Want → Type 0
AskedNeed a b k n shows (Ok did) = DidNeed a b k n shows did
AskedNeed a b k n shows (Err want) = PassedNeed a b k n shows want
