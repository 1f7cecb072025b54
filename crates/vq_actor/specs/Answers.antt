-- What the calls of an access answer: looks, tries of an event, and events that are always made.
-- This project's own.
use Rattle.std.specs.Prelude.{ℕ, ◌≡◌, Bool, false, if◌then◌else◌, List, [], ◌∷◌, Some}
use Rattle.std.specs.Prelude.{Result, Ok, Err}
use Rattle.std.specs.Prelude.{IfOk, IfErr}
use Rattle.std.specs.Option.{option_map_or}
use Rattle.vq_model.specs.declared.plan.Answer.{Answer as GivenAnswer}
use Rattle.vq_model.specs.declared.plan.Event.{Event}
use Rattle.vq_model.specs.declared.plan.Event.TheVariants.{Bind as Binds}
use Rattle.vq_model.specs.declared.plan.Question.{Question}
use Rattle.vq_model.specs.Plan.{Plan}
use Rattle.vq_point_laws.specs.Points.{PointState, after_event}
use Rattle.vq_turns.specs.declared.task.Task.TheVariants.{Answer as AnswerTask}
use Rattle.vq_turns.specs.declared.outcome.Want.{Want}
use Rattle.vq_turns.specs.declared.outcome.Want.TheVariants.{Next, Bound, Signaled}
use Rattle.vq_turns.specs.declared.outcome.Outcome.{Outcome}
use Rattle.vq_turns.specs.declared.outcome.Outcome.TheVariants.{Moved, Blocked}
use Rattle.vq_turns.specs.Turns.{Place, forward, unbound_before, point_of, answer_by}
use Rattle.vq_actor.specs.Meanings.{Meaning, IsNext, Keeps, IsShownSince, noting}

-- Looks

-- A look changes nothing but the place, which goes forward where the thing is so.
pub record AnswersLook (old new : Meaning) (test : PointState → Bool) (want : Want)
    (shows : Outcome → ℕ × ℕ → Type 0) (result : Bool) : Type 0 where
  pub kept : Keeps old new
  pub state : new.state ≡ old.state
  pub events : new.events ≡ old.events
  pub place : new.place ≡ (if result then forward old.place else old.place)
  pub true_of_state : (w : PointState) → old.state ≡ Some w → result ≡ test w
  pub shown : result ≡ false → IsShownSince old.steps (shows (Blocked want))

-- Tries

-- what an event leaves, where one was made
abbrev pub left_by : Plan → PointState → Result Event Want → PointState
left_by p w (Ok event) = after_event p w event
left_by p w (Err want) = w

abbrev pub events_of : Result Event Want → List Event
events_of (Ok event) = event ∷ []
events_of (Err want) = []

abbrev pub place_or : Place → Place → Result Event Want → Place
place_or moved x (Ok event) = moved
place_or moved x (Err want) = x

-- A try: its event was made, or nothing was for a want; that is shown since the call's start. Where the state
-- is told it answers what is expected of that state.
pub record AnswersTry (old new : Meaning) (moved : Place) (expected : PointState → Result Event Want)
    (Names : Event → Type 0) (shows : Outcome → ℕ × ℕ → Type 0) (result : Result Event Want) : Type 0 where
  pub kept : Keeps old new
  pub events : new.events ≡ noting old (events_of result)
  pub place : new.place ≡ place_or moved old.place result
  pub state : (w : PointState) → old.state ≡ Some w →
      (result ≡ expected w) × (new.state ≡ Some (left_by old.plan w result))
  pub named : IfOk result Names
  pub made : IfOk result (λ event. IsShownSince old.steps (shows (Moved event)))
  pub shown : IfErr result (λ want. IsShownSince old.steps (shows (Blocked want)))

abbrev pub Is : Event → Event → Type 0
Is x y = y ≡ x

abbrev pub IsBindOf : ℕ → Event → Type 0
IsBindOf e (Binds f q) = f ≡ e
IsBindOf e other = ⊥

-- an operation is bound once all before it in its chain are
abbrev pub bound_or : Plan → PointState → ℕ → Result Event Want
bound_or p w e = option_map_or (λ f. Err (Next f)) (unbound_before p w e) (Ok (Binds e (point_of w e)))

abbrev pub signaled_or : PointState → Event → ℕ → Result Event Want
signaled_or w event e = if w.machine.progress.made e then Ok event else Err (Signaled e)

abbrev pub bound_first : PointState → Event → ℕ → Result Event Want
bound_first w event e = if w.bound e then Ok event else Err (Bound e)

-- Events that are always made, which is shown since the call's start

pub record AnswersEvent (old new : Meaning) (moved : Place) (event : Event) (shows : Outcome → ℕ × ℕ → Type 0)
    (result : Event) : Type 0 where
  pub kept : Keeps old new
  pub events : new.events ≡ noting old (event ∷ [])
  pub place : new.place ≡ moved
  pub named : result ≡ event
  pub state : (w : PointState) → old.state ≡ Some w → new.state ≡ Some (after_event old.plan w event)
  pub made : IsShownSince old.steps (shows (Moved event))

-- a job is answered by what was compared for it
pub record MayAnswer (m : Meaning) (j : ℕ) (answer : GivenAnswer) : Type 0 where
  pub asks : Question
  pub is_next : IsNext m (AnswerTask j asks)
  pub by_seen : answer ≡ answer_by asks m.place.seen

abbrev pub answered : Place → Place
answered x = record (forward x) { seen = [] }
