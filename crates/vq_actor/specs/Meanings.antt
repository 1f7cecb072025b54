-- What an access means: whose turns it serves and how far that actor is, the state where it is told, the events
-- that it notes, and what its record shows. This project's own.
use Rattle.std.specs.Prelude.{ℕ, ◌≡◌, ◌≤◌, Bool, List, ◌++◌, filter, Option, Some}
use Rattle.std.specs.List.{slice_get}
use Rattle.std.specs.Borrow.{GName}
use Rattle.vq_model.specs.declared.script.ActorName.{ActorName}
use Rattle.vq_model.specs.declared.plan.Event.{Event}
use Rattle.vq_model.specs.Plan.{Plan}
use Rattle.vq_point_laws.specs.Points.{PointState}
use Rattle.vq_turns.specs.declared.task.Task.{Task}
use Rattle.vq_turns.specs.Programs.{program}
use Rattle.vq_turns.specs.Turns.{Place}

-- the last call, where it matters for the next
pub data Recent : Type 0 where
  Other : Recent
  -- a collection on this chain that found nothing
  Collected : (chain : ℕ) → Recent
  -- a look for the need of this index that found a pending operation with its point
  FoundAt : (need op point : ℕ) → Recent

pub record Meaning : Type 0 where
  pub plan : Plan
  -- the actor that is served, and its place in its program
  pub actor : ActorName
  pub place : Place
  pub recent : Recent
  -- the state, where it is told
  pub state : Option PointState
  -- the events that it notes, and those of them that were made through it, in order
  pub noted : Event → Bool
  pub events : List Event
  -- how far the access's record goes: its steps, and the refusals of lists
  pub steps : ℕ × ℕ
  -- the references through which the access writes, where it was lent some
  pub lenders : List GName

-- The next task

abbrev pub next_task : Meaning → Option Task
next_task m = slice_get (program m.plan m.actor) m.place.done

abbrev pub IsNext : Meaning → Task → Type 0
IsNext m t = next_task m ≡ Some t

-- the events that were made, with those of these that are noted
abbrev pub noting : Meaning → List Event → List Event
noting m es = m.events ++ filter m.noted es

-- What every call keeps

abbrev pub IsEarlier : ℕ × ℕ → ℕ × ℕ → Type 0
IsEarlier s t = (s.0 ≤ t.0) × (s.1 ≤ t.1)

pub record Keeps (old new : Meaning) : Type 0 where
  pub plan : new.plan ≡ old.plan
  pub actor : new.actor ≡ old.actor
  pub noted : new.noted ≡ old.noted
  pub steps : IsEarlier old.steps new.steps
  pub lenders : new.lenders ≡ old.lenders

-- shown since a moment of the record, and so since each earlier one
abbrev pub IsShownSince : ℕ × ℕ → (ℕ × ℕ → Type 0) → Type 0
IsShownSince s shown = (t : ℕ × ℕ) → IsEarlier t s → shown t
