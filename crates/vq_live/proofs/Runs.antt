-- What every run keeps, and that the payload rises along it.
use Rattle.std.proofs.Common.{◌≡◌, ℕ, zero, suc, ◌+◌, ◌-◌, ◌<◌, ◌≤◌, Bool, true, false, List, [], ◌∷◌, length, set, take, drop, Option, Some, None, Ok, Err, refl, sym, ap, arith, subst}
use Rattle.std.specs.Prelude.{nat_le, nat_eq, if◌then◌else◌}
use Rattle.std.specs.List.{slice_get}
use Rattle.std.proofs.lemmas.Bool.Decides.{nat_tests}
use Rattle.std.proofs.lemmas.Option.{slice_get_within}
use Rattle.vq_ground.proofs.Tests.{above_of_test}
use Rattle.vq_live.specs.declared.answers.Given.{Given}
use Rattle.vq_live.specs.declared.answers.Held.{Held}
use Rattle.vq_live.specs.declared.answers.Slot.{Slot}
use Rattle.vq_live.specs.declared.answers.Found.TheVariants as found_as
use Rattle.vq_live.specs.declared.answers.InstallFault.TheVariants as install_as
use Rattle.vq_live.specs.declared.answers.ReferFault.TheVariants as refer_as
use Rattle.vq_live.specs.declared.answers.SignalFault.{SignalFault}
use Rattle.vq_live.specs.declared.answers.SignalFault.TheVariants as signal_as
use Rattle.vq_live.specs.Live.{Live, KeepsLive, RisesFrom, opened, pending, pending_value, slot_at, is_idle}
use Rattle.vq_live.specs.Calls.{take_fault, after_take, point_from, slots_from, placed, next_fault, install_fault, after_install, first_of, first_pending, after_complete, put_slot, done_slot, cancel_fault, after_cancel, refer_answer, after_refer, after_unref, below_first, signal_fault, after_signal, found, found_of, first_at_least}
use Rattle.vq_live.specs.Runs.{Event, taking, installing, completing, cancelling, referring, returning, signaling, reserving, MayCome, after, IsRun, after_all}
use Rattle.vq_live.proofs.Slots.{out_busy, held_busy}
use Rattle.vq_live.proofs.Taking.{reuse_keeps, fresh_keeps}
use Rattle.vq_live.proofs.Completing.{complete_keeps, completed_is, held_keeps}
use Rattle.vq_live.proofs.Removing.{may_cancel, cancel_keeps}

pub opened_keeps : (initial : ℕ) → KeepsLive (opened initial)
opened_keeps initial = record {
  rising = tt;
  within = omega arith;
  out = tt;
  once = tt;
  each_out = refl;
  points = record { idle = tt; distinct = tt; none_lost = refl };
}

-- points that exist
pub out_exists : (slots : List Slot) (p : ℕ) → (slot_at slots p).out ≡ true → p < length slots
out_exists [] p e = absurd (cc)
out_exists (x ∷ xs) zero e = omega arith
out_exists (x ∷ xs) (suc p) e = let rest = out_exists xs p e in omega arith

pub held_exists : (slots : List Slot) (p : ℕ) → 0 < (slot_at slots p).refs → p < length slots
held_exists [] p e = absurd (omega arith)
held_exists (x ∷ xs) zero e = omega arith
held_exists (x ∷ xs) (suc p) e = let rest = held_exists xs p e in omega arith

-- a take
take_event : (t : Live) (v : ℕ) → KeepsLive t → take_fault t v ≡ None → KeepsLive (after_take t v)
take_event t v k fine = by_free t.free refl
  where
    by_free : (free : List ℕ) → t.free ≡ free → KeepsLive (record t { ops = placed (record { value = v; point = point_from free (length t.slots) }) t.ops; slots = slots_from free t.slots; free = drop 1 free; reserved = t.reserved - 1 })
    by_free [] e = fresh_keeps t v k fine e
    by_free (p ∷ rest) e = reuse_keeps t v p rest k fine e

-- an install
next_some : (next : Option Given) (x : Given) → next_fault next x ≡ None → (y : Given) × (next ≡ Some y)
next_some None x h = absurd (cc)
next_some (Some y) x h = (y, refl)

install_next : (early : Bool) (next : Option Given) (x : Given) → (if early then Some install_as.Already else next_fault next x) ≡ None → next_fault next x ≡ None
install_next true next x h = absurd (cc)
install_next false next x h = h

install_event : (t : Live) (x : Given) → KeepsLive t → install_fault t x ≡ None → KeepsLive (after_install t)
install_event t x k h =
    let next = next_some (slice_get t.ops t.installed) x (install_next (nat_le x.value (pending_value t)) (slice_get t.ops t.installed) x h) in
    let within = slice_get_within t.ops t.installed next.0 next.1 in
    record { rising = k.rising; within = omega arith; out = k.out; once = k.once; each_out = k.each_out; points = k.points }

-- a completion
pub first_rest : (n : ℕ) (ops : List Given) (x : Given) → first_of (take n ops) ≡ Some x → (rest : List Given) × (ops ≡ x ∷ rest) × (0 < n)
first_rest zero ops x h = absurd (cc)
first_rest (suc n) [] x h = absurd (cc)
first_rest (suc n) (y ∷ ys) x h =
    let same : y ≡ x = cc in (ys, ap (λ (z : Given). z ∷ ys) same, omega arith)

pub complete_gives : (t : Live) (x : Given) → first_pending t ≡ Some x → (rest : List Given) × (t.ops ≡ x ∷ rest) × (0 < t.installed) × (put_slot (record t { payload = x.value; ops = rest; installed = t.installed - 1 }) x.point (done_slot t x.point) ≡ after_complete t)
complete_gives t x h =
    let first = first_rest t.installed t.ops x h in
    (first.0, first.1, first.2, completed_is t x first.0 first.1 first.2)

complete_event : (t : Live) (x : Given) → KeepsLive t → first_pending t ≡ Some x → KeepsLive (after_complete t)
complete_event t x k h =
    let gives = complete_gives t x h in
    subst KeepsLive gives.3 (complete_keeps t x gives.0 k gives.1 gives.2)

-- a cancel
cancel_event : (t : Live) (x : Given) → KeepsLive t → cancel_fault t x ≡ None → KeepsLive (after_cancel t x)
cancel_event t x k h =
    let may = may_cancel t x k h in
    subst (λ (ops : List Given). KeepsLive (put_slot (record t { ops = ops }) x.point (done_slot t x.point))) may.1.removed
    (cancel_keeps t x may.0 k may.1)

-- a reference
refer_ok : (out full : Bool) (h : Held) → (if out then if full then Err refer_as.Full else Ok h else Err refer_as.NotOut) ≡ Ok h → out ≡ true
refer_ok true full h e = refl
refer_ok false full h e = absurd (cc)

pub refer_out : (t : Live) (p : ℕ) → refer_answer t p ≡ Ok (record { point = p }) → (slot_at t.slots p).out ≡ true
refer_out t p h = refer_ok (slot_at t.slots p).out (nat_eq (slot_at t.slots p).refs 4294967295) (record { point = p }) h

refer_event : (t : Live) (p : ℕ) → KeepsLive t → refer_answer t p ≡ Ok (record { point = p }) → KeepsLive (after_refer t p)
refer_event t p k h =
    let out = refer_out t p h in
    let more : Slot = record { refs = (slot_at t.slots p).refs + 1; out = true } in
    let kept = held_keeps t p more k (out_exists t.slots p out) (out_busy (slot_at t.slots p) out) (sym out) in
    let idle : is_idle more ≡ false = out_busy more refl in
    subst (λ (b : Bool). KeepsLive (record t { slots = set t.slots p more; free = if b then p ∷ t.free else t.free })) idle kept

unref_event : (t : Live) (p : ℕ) → KeepsLive t → 0 < (slot_at t.slots p).refs → KeepsLive (after_unref t p)
unref_event t p k h =
    held_keeps t p (record { refs = (slot_at t.slots p).refs - 1; out = (slot_at t.slots p).out }) k (held_exists t.slots p h) (held_busy (slot_at t.slots p) h) refl

-- a signal of the host
signal_none : (past : Bool) (n : ℕ) (rest : Option SignalFault) → (if past then Some (signal_as.NotAbove n) else rest) ≡ None → (past ≡ false) × (rest ≡ None)
signal_none true n rest h = absurd (cc)
signal_none false n rest h = (refl, h)

rises_signal : (n v : ℕ) (ops : List Given) → RisesFrom n ops → below_first ops v ≡ None → RisesFrom v ops
rises_signal n v [] h e = tt
rises_signal n v (x ∷ xs) h e = by_test (nat_le x.value v) refl e
  where
    by_test : (b : Bool) → nat_le x.value v ≡ b → (if b then Some (signal_as.Outstanding x.value) else None) ≡ None → RisesFrom v (x ∷ xs)
    by_test true t q = absurd (cc)
    by_test false t q = (above_of_test x.value v t, h.1)

signal_may : (t : Live) (v : ℕ) → signal_fault t v ≡ None → (t.payload < v) × (below_first t.ops v ≡ None)
signal_may t v h =
    let both = signal_none (nat_le v t.payload) t.payload (below_first t.ops v) h in
    (above_of_test v t.payload both.0, both.1)

signal_event : (t : Live) (v : ℕ) → KeepsLive t → signal_fault t v ≡ None → KeepsLive (after_signal t v)
signal_event t v k h =
    record { rising = rises_signal t.payload v t.ops k.rising (signal_may t v h).1; within = k.within; out = k.out; once = k.once; each_out = k.each_out; points = k.points }

-- each event, and a run of them
pub event_keeps : (t : Live) (e : Event) → KeepsLive t → MayCome t e → KeepsLive (after t e)
event_keeps t (taking x) k m = take_event t x.value k m.0
event_keeps t (installing x) k m = install_event t x k m
event_keeps t (completing x) k m = complete_event t x k m
event_keeps t (cancelling x) k m = cancel_event t x k m
event_keeps t (referring p) k m = refer_event t p k m
event_keeps t (returning p) k m = unref_event t p k m
event_keeps t (signaling v) k m = signal_event t v k m
event_keeps t (reserving n) k m = record { rising = k.rising; within = k.within; out = k.out; once = k.once; each_out = k.each_out; points = k.points }

pub run_keeps : (t : Live) (events : List Event) → KeepsLive t → IsRun t events → KeepsLive (after_all t events)
run_keeps t [] k r = k
run_keeps t (e ∷ events) k r = run_keeps (after t e) events (event_keeps t e k r.0) r.1

-- the payload
event_rises : (t : Live) (e : Event) → KeepsLive t → MayCome t e → t.payload ≤ (after t e).payload
event_rises t (taking x) k m = omega arith
event_rises t (installing x) k m = omega arith
event_rises t (completing x) k m =
    let gives = complete_gives t x m in
    let rising = subst (RisesFrom t.payload) gives.1 k.rising in
    let low = rising.0 in
    let now : x.value ≡ (after_complete t).payload = ap (λ (u : Live). u.payload) gives.3 in
    omega arith
event_rises t (cancelling x) k m = omega arith
event_rises t (referring p) k m = omega arith
event_rises t (returning p) k m = omega arith
event_rises t (signaling v) k m = let low = (signal_may t v m).0 in omega arith
event_rises t (reserving n) k m = omega arith

pub run_rises : (t : Live) (events : List Event) → KeepsLive t → IsRun t events → t.payload ≤ (after_all t events).payload
run_rises t [] k r = omega arith
run_rises t (e ∷ events) k r =
    let first = event_rises t e k r.0 in
    let rest = run_rises (after t e) events (event_keeps t e k r.0) r.1 in
    omega arith

-- what is found past
past_reached : (t : Live) (v : ℕ) → found t v ≡ found_as.Past → v ≤ t.payload
past_reached t v h = by_test (nat_le v t.payload) refl h
  where
    is_le : (a b : ℕ) → nat_le a b ≡ true → a ≤ b
    is_le a b q = grind (arith, nat_tests)

    never : (o : Option Given) → found_of o ≡ found_as.Past → v ≤ t.payload
    never None q = absurd (cc)
    never (Some x) q = absurd (cc)

    by_test : (b : Bool) → nat_le v t.payload ≡ b → (if b then found_as.Past else found_of (first_at_least v (pending t))) ≡ found_as.Past → v ≤ t.payload
    by_test true e q = is_le v t.payload e
    by_test false e q = never (first_at_least v (pending t)) q

reached_past : (t : Live) (v : ℕ) → v ≤ t.payload → found t v ≡ found_as.Past
reached_past t v l = ap (λ (b : Bool). if b then found_as.Past else found_of (first_at_least v (pending t))) (is_le v t.payload l)
  where
    is_le : (a b : ℕ) → a ≤ b → nat_le a b ≡ true
    is_le a b q = grind (arith, nat_tests)

pub past_stays : (t : Live) (events : List Event) (v : ℕ) → KeepsLive t → IsRun t events → found t v ≡ found_as.Past → found (after_all t events) v ≡ found_as.Past
past_stays t events v k r h =
    let low = past_reached t v h in
    let rises = run_rises t events k r in
    reached_past (after_all t events) v (omega arith)
