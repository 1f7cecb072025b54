-- Waits for needs: what is found for a need, and references to points while they are waited for.
-- This project's own.
use Rattle.std.specs.Prelude.{ℕ, ◌≡◌, ◌||◌, nat_le, is_some, Bool, true, false, List, [], ◌∷◌, Some}
use Rattle.std.specs.Prelude.{None}
use Rattle.std.specs.List.{slice_get}
use Rattle.vq_model.specs.declared.script.ActorName.{ActorName}
use Rattle.vq_model.specs.declared.plan.Need.{Need}
use Rattle.vq_model.specs.Plan.{Plan, initial, resolver}
use Rattle.vq_point_laws.specs.Points.{PointState}
use Rattle.vq_turns.specs.declared.look.Found.{Found}
use Rattle.vq_turns.specs.declared.look.Found.TheVariants.{Past, Pending, NotYet}
use Rattle.vq_turns.specs.declared.look.Holding.{Holding}
use Rattle.vq_turns.specs.declared.outcome.Outcome.{Outcome}
use Rattle.vq_turns.specs.declared.outcome.Outcome.TheVariants.{Blocked}
use Rattle.vq_turns.specs.declared.outcome.Want.TheVariants.{Bound}
use Rattle.vq_turns.specs.declared.task.Task.TheVariants.{AwaitNeeds}
use Rattle.vq_turns.specs.Turns.{Place, forward, held_for, holding_also, without_first, found}
use Rattle.vq_actor.specs.Meanings.{Meaning, Recent, Other, FoundAt, IsNext, Keeps, IsShownSince}

-- Looks for a need

-- whether something reaches a value of a chain
abbrev pub is_resolved : Plan → ℕ → ℕ → Bool
is_resolved p t v = nat_le v (initial p t) || is_some (resolver p t v)

-- a look for a need of the next task, for which no reference is held
pub record MayFind (m : Meaning) (k t v : ℕ) : Type 0 where
  pub needs : List Need
  pub is_next : IsNext m (AwaitNeeds needs)
  pub need : Need
  pub at : slice_get needs k ≡ Some need
  pub chain : need.chain ≡ t
  pub value : need.value ≡ v
  pub resolved : is_resolved m.plan t v ≡ true
  pub waiting : m.place.met ≡ false
  pub without : held_for k m.place.holding ≡ None

-- A need that is past ends the waiting; references that are held have still to be given back.
abbrev pub met_at : Place → List Holding → Place
met_at x [] = forward x
met_at x (h ∷ hs) = record x { met = true }

abbrev pub place_found : Place → Found → Place
place_found x Past = met_at x x.holding
place_found x other = x

abbrev pub recent_found : ℕ → Found → Recent
recent_found k (Pending e q) = FoundAt k e q
recent_found k other = Other

pub record AnswersFind (old new : Meaning) (k t v : ℕ) (shows : Outcome → ℕ × ℕ → Type 0)
    (result : Found) : Type 0 where
  pub kept : Keeps old new
  pub events : new.events ≡ old.events
  pub state : new.state ≡ old.state
  pub place : new.place ≡ place_found old.place result
  pub recent : new.recent ≡ recent_found k result
  pub true_of_state : (w : PointState) → old.state ≡ Some w → found old.plan w t v ≡ Some result
  pub shown : (e : ℕ) → result ≡ NotYet e → IsShownSince old.steps (shows (Blocked (Bound e)))

-- References

-- the need for which a pending operation was found last
abbrev pub need_found : Recent → ℕ
need_found (FoundAt k e q) = k
need_found _ = 0

-- A reference is taken to the point that was just found for a need of the next task, for which none is held.
pub record MayRefer (m : Meaning) (a : ActorName) (q e : ℕ) : Type 0 where
  pub actor : a ≡ m.actor
  pub just_found : m.recent ≡ FoundAt (need_found m.recent) e q
  pub needs : List Need
  pub is_next : IsNext m (AwaitNeeds needs)
  pub need : Need
  pub at : slice_get needs (need_found m.recent) ≡ Some need
  pub waiting : m.place.met ≡ false
  pub without : held_for (need_found m.recent) m.place.holding ≡ None
  pub pending : (w : PointState) → m.state ≡ Some w →
      found m.plan w need.chain need.value ≡ Some (Pending e q)

abbrev pub referred : Meaning → ℕ → ℕ → Place
referred m q e = holding_also m.place (need_found m.recent) e q

-- a reference is looked at while its need is waited for
pub record MayLook (m : Meaning) (a : ActorName) (q e : ℕ) : Type 0 where
  pub actor : a ≡ m.actor
  pub needs : List Need
  pub is_next : IsNext m (AwaitNeeds needs)
  pub waiting : m.place.met ≡ false
  pub need : ℕ
  pub held : held_for need m.place.holding ≡ Some (record { need = need; point = q; op = e })

abbrev pub looked_at : Place → Place
looked_at x = record x { met = true }

-- after the waiting the references are given back, in order
pub record MayUnrefer (m : Meaning) (a : ActorName) (q e : ℕ) : Type 0 where
  pub actor : a ≡ m.actor
  pub needs : List Need
  pub is_next : IsNext m (AwaitNeeds needs)
  pub met : m.place.met ≡ true
  pub need : ℕ
  pub rest : List Holding
  pub held : m.place.holding ≡ record { need = need; point = q; op = e } ∷ rest

abbrev pub given_back : Place → List Holding → Place
given_back x [] = x
given_back x (h ∷ hs) = without_first x hs
