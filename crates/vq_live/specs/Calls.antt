-- What each call of a live timeline answers and leaves.
use Rattle.std.specs.Prelude.{ℕ, Bool, true, false, List, [], ◌∷◌, ◌++◌, Option, Some, None, ◌≡◌, ◌+◌, ◌-◌, ◌<◌}
use Rattle.std.specs.Prelude.{◌==◌, ◌&&◌, length, drop, find, nat_le, nat_lt, nat_eq, if◌then◌else◌, slice_set, Result, Ok, Err}
use Rattle.std.specs.List.{slice_get, list_any}
use Rattle.vq_live.specs.declared.answers.Given.{Given}
use Rattle.vq_live.specs.declared.answers.Slot.{Slot}
use Rattle.vq_live.specs.declared.answers.SignalFault.{SignalFault}
use Rattle.vq_live.specs.declared.answers.SignalFault.TheVariants as signal_as
use Rattle.vq_live.specs.declared.answers.TakeFault.{TakeFault}
use Rattle.vq_live.specs.declared.answers.TakeFault.TheVariants as take_as
use Rattle.vq_live.specs.declared.answers.ReserveFault.{ReserveFault}
use Rattle.vq_live.specs.declared.answers.ReserveFault.TheVariants as reserve_as
use Rattle.vq_live.specs.declared.answers.ReferFault.{ReferFault}
use Rattle.vq_live.specs.declared.answers.ReferFault.TheVariants as refer_as
use Rattle.vq_live.specs.declared.answers.Found.{Found}
use Rattle.vq_live.specs.declared.answers.Found.TheVariants as found_as
use Rattle.vq_live.specs.declared.answers.InstallFault.{InstallFault}
use Rattle.vq_live.specs.declared.answers.InstallFault.TheVariants as install_as
use Rattle.vq_live.specs.declared.answers.CancelFault.{CancelFault}
use Rattle.vq_live.specs.declared.answers.CancelFault.TheVariants as cancel_as
use Rattle.vq_live.specs.declared.answers.Held.{Held}
use Rattle.vq_live.specs.Live.{Live, pending, pending_value, slot_at, is_idle}

-- the host's signal
abbrev pub below_first : List Given → ℕ → Option SignalFault
below_first [] value = None
below_first (x ∷ xs) value = if nat_le x.value value then Some (signal_as.Outstanding x.value) else None

abbrev pub signal_fault : Live → ℕ → Option SignalFault
signal_fault t value =
    if nat_le value t.payload then Some (signal_as.NotAbove t.payload) else below_first t.ops value

abbrev pub after_signal : Live → ℕ → Live
after_signal t value = record t { payload = value }

-- whether two operations have one value and one point
abbrev pub is_same : Given → Given → Bool
is_same x y = (x.value == y.value) && (x.point == y.point)

-- installing: only the taken operation of least value is installed
abbrev pub next_fault : Option Given → Given → Option InstallFault
next_fault None given = Some install_as.NothingTaken
next_fault (Some x) given = if is_same x given then None else Some (install_as.NotNext x)

abbrev pub install_fault : Live → Given → Option InstallFault
install_fault t given =
    if nat_le given.value (pending_value t) then Some install_as.Already
    else next_fault (slice_get t.ops t.installed) given

abbrev pub after_install : Live → Live
after_install t = record t { installed = t.installed + 1 }

-- looking up
abbrev pub first_at_least : ℕ → List Given → Option Given
first_at_least value xs = find (λ x. nat_le value x.value) xs

abbrev pub found_of : Option Given → Found
found_of None = found_as.NotYet
found_of (Some x) = found_as.Pending x

abbrev pub found : Live → ℕ → Found
found t value =
    if nat_le value t.payload then found_as.Past else found_of (first_at_least value (pending t))

-- what a change of a point's slot leaves: the point is free where it is idle now
abbrev pub put_slot : Live → ℕ → Slot → Live
put_slot t point slot =
    record t {
      slots = slice_set t.slots point slot;
      free = if is_idle slot then point ∷ t.free else t.free;
    }

-- what is left of a point whose operation is completed or taken back
abbrev pub done_slot : Live → ℕ → Slot
done_slot t point = record { refs = (slot_at t.slots point).refs; out = false }

-- completing
abbrev pub first_of : List Given → Option Given
first_of [] = None
first_of (x ∷ xs) = Some x

abbrev pub first_pending : Live → Option Given
first_pending t = first_of (pending t)

abbrev pub complete_from : Live → Option Given → Live
complete_from t None = t
complete_from t (Some x) =
    put_slot (record t { payload = x.value; ops = drop 1 t.ops; installed = t.installed - 1 }) x.point
    (done_slot t x.point)

abbrev pub after_complete : Live → Live
after_complete t = complete_from t (first_pending t)

-- taking back: only what is taken and isn't installed
abbrev pub cancel_fault : Live → Given → Option CancelFault
cancel_fault t given =
    if nat_le given.value (pending_value t) then Some cancel_as.Already
    else if list_any (λ x. is_same x given) t.ops then None else Some cancel_as.NotTaken

-- the operations without the first that has this one's value
abbrev pub without : Given → List Given → List Given
without y [] = []
without y (x ∷ xs) = if x.value == y.value then xs else x ∷ without y xs

abbrev pub after_cancel : Live → Given → Live
after_cancel t given =
    put_slot (record t { ops = without given t.ops }) given.point (done_slot t given.point)

-- holding
abbrev pub refer_answer : Live → ℕ → Result Held ReferFault
refer_answer t point =
    if (slot_at t.slots point).out
    then if nat_eq (slot_at t.slots point).refs 4294967295 then Err refer_as.Full else Ok (record { point = point })
    else Err refer_as.NotOut

abbrev pub after_refer : Live → ℕ → Live
after_refer t point =
    record t { slots = slice_set t.slots point (record { refs = (slot_at t.slots point).refs + 1; out = true }) }

abbrev pub after_unref : Live → ℕ → Live
after_unref t point =
    put_slot t point
    (record { refs = (slot_at t.slots point).refs - 1; out = (slot_at t.slots point).out })

-- the first point from this number on that is held
abbrev pub held_from : ℕ → List Slot → Option ℕ
held_from n [] = None
held_from n (s ∷ slots) = if nat_eq s.refs 0 then held_from (n + 1) slots else Some n

-- taking
abbrev pub take_fault : Live → ℕ → Option TakeFault
take_fault t value =
    if nat_le value (pending_value t) then Some (take_as.NotAbove (pending_value t))
    else if list_any (λ x. x.value == value) t.ops then Some take_as.Twice else None

-- a take can fail for want of numbers or memory too, where none is reserved
abbrev pub MayLack : Live → TakeFault → Type 0
MayLack t take_as.NoMemory = t.reserved ≡ 0
MayLack t take_as.Full = (t.reserved ≡ 0) × (length t.slots ≡ 4294967295) × (t.free ≡ [])
MayLack t take_as.Twice = ⊥
MayLack t (take_as.NotAbove n) = ⊥

-- the operations with this one in its place by value
abbrev pub placed : Given → List Given → List Given
placed y [] = y ∷ []
placed y (x ∷ xs) = if nat_lt x.value y.value then x ∷ placed y xs else y ∷ x ∷ xs

-- the point that a take gives: the free one that was freed last, or a fresh one where none is free
abbrev pub point_from : List ℕ → ℕ → ℕ
point_from [] fresh = fresh
point_from (point ∷ free) fresh = point

abbrev pub next_point : Live → ℕ
next_point t = point_from t.free (length t.slots)

abbrev pub given_to : Live → ℕ → Given
given_to t value = record { value = value; point = next_point t }

abbrev pub busy : Slot
busy = record { refs = 0; out = true }

abbrev pub slots_from : List ℕ → List Slot → List Slot
slots_from [] slots = slots ++ busy ∷ []
slots_from (point ∷ free) slots = slice_set slots point busy

abbrev pub after_take : Live → ℕ → Live
after_take t value =
    record t {
      ops = placed (given_to t value) t.ops;
      slots = slots_from t.free t.slots;
      free = drop 1 t.free;
      reserved = t.reserved - 1;
    }

-- reserving for so many takes, in the place of what was reserved before
abbrev pub LacksNumbers : Live → ℕ → Type 0
LacksNumbers t count = 4294967295 + length t.free < length t.slots + count

abbrev pub LacksRoom : Live → ℕ → ReserveFault → Type 0
LacksRoom t count reserve_as.Full = (t.reserved < count) × LacksNumbers t count
LacksRoom t count reserve_as.NoMemory = (t.reserved < count) × (LacksNumbers t count → ⊥)

abbrev pub after_reserve : Live → ℕ → Live
after_reserve t count = record t { reserved = count }
