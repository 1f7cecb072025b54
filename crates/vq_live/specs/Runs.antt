-- Whole runs of calls on a live timeline. A refused call changes nothing, so a run is the list of those
-- that weren't refused, with what they answered.
use Rattle.std.specs.Prelude.{ℕ, Bool, true, false, List, [], ◌∷◌, Some, None, ◌≡◌, ◌<◌, ◌≤◌, ◌+◌, ◌==◌}
use Rattle.std.specs.Prelude.{if◌then◌else◌, Ok, not}
use Rattle.vq_live.specs.declared.answers.Given.{Given}
use Rattle.vq_live.specs.Live.{Live, slot_at, count_of, is_idle, one_if}
use Rattle.vq_live.specs.Calls.{take_fault, given_to, after_take, install_fault, after_install, first_pending}
use Rattle.vq_live.specs.Calls.{after_complete, cancel_fault, after_cancel, refer_answer, after_refer, after_unref}
use Rattle.vq_live.specs.Calls.{signal_fault, after_signal, LacksNumbers, after_reserve}
use Rattle.vq_live.specs.declared.answers.Slot.{Slot}

-- a call that wasn't refused
pub data Event : Type 0 where
  taking : Given → Event
  installing : Given → Event
  completing : Given → Event
  cancelling : Given → Event
  referring : ℕ → Event
  returning : ℕ → Event
  signaling : ℕ → Event
  reserving : ℕ → Event

-- when each may come, by the words of the calls' contracts
abbrev pub MayCome : Live → Event → Type 0
MayCome t (taking x) = (take_fault t x.value ≡ None) × (x ≡ given_to t x.value)
MayCome t (installing x) = install_fault t x ≡ None
MayCome t (completing x) = first_pending t ≡ Some x
MayCome t (cancelling x) = cancel_fault t x ≡ None
MayCome t (referring point) = refer_answer t point ≡ Ok (record { point = point })
MayCome t (returning point) = 0 < (slot_at t.slots point).refs
MayCome t (signaling value) = signal_fault t value ≡ None
MayCome t (reserving count) = LacksNumbers t count → ⊥

-- what each leaves
abbrev pub after : Live → Event → Live
after t (taking x) = after_take t x.value
after t (installing x) = after_install t
after t (completing x) = after_complete t
after t (cancelling x) = after_cancel t x
after t (referring point) = after_refer t point
after t (returning point) = after_unref t point
after t (signaling value) = after_signal t value
after t (reserving count) = after_reserve t count

-- A call was this event: the event may come before it, and leaves what is there after it.
pub record Comes (t : Live) (e : Event) (u : Live) : Type 0 where
  pub may : MayCome t e
  pub leaves : u ≡ after t e

-- a run from a state, and where it leads
abbrev pub IsRun : Live → List Event → Type 0
IsRun t [] = Unit {0}
IsRun t (e ∷ events) = MayCome t e × IsRun (after t e) events

abbrev pub after_all : Live → List Event → Live
after_all t [] = t
after_all t (e ∷ events) = after_all (after t e) events

-- how often a point is referred to in a run, and how often a reference to it is given back
abbrev pub refers : ℕ → Event → Bool
refers point (referring p) = p == point
refers point e = false

abbrev pub returns_it : ℕ → Event → Bool
returns_it point (returning p) = p == point
returns_it point e = false

abbrev pub times : (Event → Bool) → List Event → ℕ
times test [] = 0
times test (e ∷ events) = one_if (test e) + times test events

-- whether a point carries an operation after an event, if it did before or didn't
abbrev pub carried_after : ℕ → Bool → Event → Bool
carried_after point before (taking x) = if x.point == point then true else before
carried_after point before (completing x) = if x.point == point then false else before
carried_after point before (cancelling x) = if x.point == point then false else before
carried_after point before e = before

abbrev pub is_carried : ℕ → Bool → List Event → Bool
is_carried point before [] = before
is_carried point before (e ∷ events) = is_carried point (carried_after point before e) events

-- At the end of this run the point carries nothing and all its references are given back.
pub record IsLeft (point : ℕ) (events : List Event) : Type 0 where
  pub carries_none : is_carried point false events ≡ false
  pub all_returned : times (refers point) events ≡ times (returns_it point) events

-- how many points carry an operation or are held
abbrev pub is_used : Slot → Bool
is_used s = not (is_idle s)

abbrev pub used_count : Live → ℕ
used_count t = count_of is_used t.slots

-- no more than so many at once, all along a run
abbrev pub UsesAtMost : ℕ → Live → List Event → Type 0
UsesAtMost n t [] = used_count t ≤ n
UsesAtMost n t (e ∷ events) = (used_count t ≤ n) × UsesAtMost n (after t e) events
