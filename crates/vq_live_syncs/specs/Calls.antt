-- What calls answer and leave. This project's own.
use Rattle.std.specs.Prelude.{ℕ, List, ◌≡◌, ◌⊎◌, ◌+◌, ◌++◌, [], ◌∷◌, Option, Some, None, Result, Ok, Err}
use Rattle.std.specs.List.{slice_get, slice_set}
use Rattle.vq_live.specs.declared.answers.TakeFault.{TakeFault}
use Rattle.vq_live.specs.declared.answers.TakeFault.TheVariants as fault_as
use Rattle.vq_live.specs.Live.{Live}
use Rattle.vq_live.specs.Calls.{first_pending, after_complete, after_take, given_to, take_fault, MayLack}
use Rattle.vq_live.specs.Runs.{Event, Comes}
use Rattle.vq_live_syncs.specs.declared.timeline.Taken.{Taken}
use Rattle.vq_live_syncs.specs.declared.timeline.Reach.TheVariants.{Work}
use Rattle.vq_live_syncs.specs.Synced.{Synced}

-- a call of the timeline was this event; or it was refused, with its cause, and changed nothing
abbrev pub IsMade : {A F : Type 0} → Live → Event → Live → Option F → Result A F → Type 0
IsMade x e y fault (Ok done) = (fault ≡ None) × Comes x e y
IsMade x e y fault (Err f) = (fault ≡ Some f) × (y ≡ x)

-- taking: the number of the take goes to its point
abbrev pub taken_by : Synced → ℕ → Taken
taken_by t value = record { given = given_to t.live value; number = t.next }

abbrev pub numbers_from : List ℕ → List ℕ → ℕ → List ℕ
numbers_from [] numbers n = numbers ++ n ∷ []
numbers_from (point ∷ free) numbers n = slice_set numbers point n

abbrev pub after_taking : Synced → ℕ → Synced
after_taking t value =
    record {
      live = after_take t.live value;
      numbers = numbers_from t.live.free t.numbers t.next;
      next = t.next + 1;
      reach = t.reach;
    }

-- a take can fail for want of memory, and where all numbers of takes are used
abbrev pub Lacks : Synced → TakeFault → Type 0
Lacks t fault_as.NoMemory = Unit {0}
Lacks t fault_as.Full = (t.next ≡ 18446744073709551615) ⊎ MayLack t.live fault_as.Full
Lacks t fault_as.Twice = ⊥
Lacks t (fault_as.NotAbove n) = ⊥

abbrev pub IsRefused : Synced → ℕ → TakeFault → Type 0
IsRefused t value fault = (take_fault t.live value ≡ Some fault) ⊎ Lacks t fault

-- completing: this is the first pending operation, and the number is that of its own take
abbrev pub IsFirst : Synced → Taken → Type 0
IsFirst t taken = (first_pending t.live ≡ Some taken.given) × (slice_get t.numbers taken.given.point ≡ Some taken.number)

-- such an operation with this point and this number of its take is the first pending one
abbrev pub IsFirstAt : Synced → ℕ → ℕ → Type 0
IsFirstAt t point number = (x : Taken) × IsFirst t x × (x.given.point ≡ point) × (x.number ≡ number)

abbrev pub after_work : Synced → Taken → Synced
after_work t taken = record t { live = after_complete t.live; reach = Work taken }

-- what completes leaves, or it leaves all as it was and hands the evidence back
abbrev pub HasCompleted : {A : Type 0} → Synced → Synced → ℕ → ℕ → Result Taken A → Type 0
HasCompleted t u point number (Ok taken) =
    IsFirst t taken × (taken.given.point ≡ point) × (taken.number ≡ number) × (u ≡ after_work t taken)
HasCompleted t u point number (Err back) = (IsFirstAt t point number → ⊥) × (u ≡ t)
