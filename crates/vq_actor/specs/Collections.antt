-- Collections on a chain, and what comes after one that found nothing: a take, or a look at the past
-- value. This project's own.
use Rattle.std.specs.Prelude.{ℕ, ◌≡◌, true, Option, Some, None}
use Rattle.std.specs.Option.{option_to_list}
use Rattle.vq_model.specs.declared.plan.Event.{Event}
use Rattle.vq_model.specs.declared.plan.Event.TheVariants.{Take as Takes, Complete, Free}
use Rattle.vq_model.specs.Plan.{Plan, chain}
use Rattle.vq_ground.specs.Lists.{has}
use Rattle.vq_point_laws.specs.Points.{PointState, after_event}
use Rattle.vq_turns.specs.declared.task.Task.{Task}
use Rattle.vq_turns.specs.declared.task.Task.TheVariants.{Take, Compare}
use Rattle.vq_turns.specs.Turns.{seeing, collected, past_value}
use Rattle.vq_turns.specs.declared.outcome.Outcome.{Outcome}
use Rattle.vq_turns.specs.declared.outcome.Outcome.TheVariants.{Moved}
use Rattle.vq_actor.specs.Meanings.{Meaning, Recent, Other, Collected, IsNext, IsShownSince, Keeps, noting}

-- Collections

-- whether a task begins with a collection on a chain
abbrev pub Collects : ℕ → Task → Type 0
Collects t (Take e u) = u ≡ t
Collects t (Compare u v) = u ≡ t
Collects t other = ⊥

pub record MayCollect (m : Meaning) (t : ℕ) : Type 0 where
  pub task : Task
  pub is_next : IsNext m task
  pub collects : Collects t task

abbrev pub left_by_option : Plan → PointState → Option Event → PointState
left_by_option p w None = w
left_by_option p w (Some event) = after_event p w event

abbrev pub recent_by : ℕ → Option Event → Recent
recent_by t None = Collected t
recent_by t (Some event) = Other

-- an operation of the chain becomes past, or a point is freed
abbrev pub IsCollection : Plan → ℕ → Event → Type 0
IsCollection p t (Complete e) = has (chain p t) e ≡ true
IsCollection p t (Free q) = Unit {0}
IsCollection p t other = ⊥

-- what was made is shown since the call's start
pub record AnswersCollect (old new : Meaning) (t : ℕ) (shows : Outcome → ℕ × ℕ → Type 0)
    (result : Option Event) : Type 0 where
  pub kept : Keeps old new
  pub events : new.events ≡ noting old (option_to_list result)
  pub place : new.place ≡ old.place
  pub recent : new.recent ≡ recent_by t result
  pub state : (w : PointState) → old.state ≡ Some w →
      (result ≡ collected old.plan w t) × (new.state ≡ Some (left_by_option old.plan w result))
  pub named : (event : Event) → result ≡ Some event → IsCollection old.plan t event
  pub made : (event : Event) → result ≡ Some event → IsShownSince old.steps (shows (Moved event))

-- After a collection that found nothing

-- the chain of the last collection
abbrev pub emptied : Recent → ℕ
emptied (Collected t) = t
emptied _ = 0

pub record MayTake (m : Meaning) (e : ℕ) : Type 0 where
  pub is_next : IsNext m (Take e (emptied m.recent))
  pub collected : m.recent ≡ Collected (emptied m.recent)

abbrev pub IsTakeOf : ℕ → Event → Type 0
IsTakeOf e (Takes f q fresh) = f ≡ e
IsTakeOf e other = ⊥

pub record MayLookPast (m : Meaning) (t wanted : ℕ) : Type 0 where
  pub is_next : IsNext m (Compare t wanted)
  pub collected : m.recent ≡ Collected t

pub record AnswersPast (old new : Meaning) (t wanted result : ℕ) : Type 0 where
  pub kept : Keeps old new
  pub state : new.state ≡ old.state
  pub events : new.events ≡ old.events
  pub place : new.place ≡ seeing old.place wanted result
  pub true_of_state : (w : PointState) → old.state ≡ Some w → result ≡ past_value old.plan w t
