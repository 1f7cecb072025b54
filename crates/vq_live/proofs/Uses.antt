-- When a point is given again, and how many points are made.
use Rattle.std.proofs.Common.{◌≡◌, ℕ, zero, suc, ◌+◌, ◌-◌, ◌<◌, ◌≤◌, Bool, true, false, not, List, [], ◌∷◌, ◌++◌, length, set, drop, refl, sym, ◌∙◌, ap, arith, subst, ◌⊎◌, inl, inr}
use Rattle.std.specs.Prelude.{◌==◌, ◌&&◌, if◌then◌else◌}
use Rattle.std.proofs.lemmas.Bool.{cases_eq, ne_eqb, eqb-true, eq-eqb}
use Rattle.std.proofs.lemmas.List.{get_or-set_same, get_or-set_other, get_or_past, length-set}
use Rattle.vq_ground.proofs.Bools.{same_tests}
use Rattle.vq_live.specs.declared.answers.Given.{Given}
use Rattle.vq_live.specs.declared.answers.Slot.{Slot}
use Rattle.vq_live.specs.Live.{Live, KeepsLive, AreOut, AreIdle, opened, slot_at, no_slot, is_idle, one_if, count_of}
use Rattle.vq_live.specs.Calls.{point_from, next_point, slots_from, busy, done_slot, after_take, after_complete}
use Rattle.vq_live.specs.Runs.{Event, taking, installing, completing, cancelling, referring, returning, signaling, reserving, MayCome, after, IsRun, after_all, refers, returns_it, times, carried_after, is_carried, IsLeft, is_used, used_count, UsesAtMost}
use Rattle.vq_live.proofs.Removing.{may_cancel, at_out}
use Rattle.vq_live.proofs.Runs.{opened_keeps, out_exists, held_exists, refer_out, complete_gives, event_keeps, run_keeps}

suc_eq : (a b : ℕ) → (a == b) ≡ (suc a == suc b)
suc_eq a b =
    same_tests (a == b) (suc a == suc b) (λ e. eq-eqb (suc a) (suc b) (ap suc (eqb-true a b e)))
    (λ e. let q = eqb-true (suc a) (suc b) e in eq-eqb a b (omega arith))

-- an idle slot
idle_is : (s : Slot) → is_idle s ≡ true → (s.refs ≡ 0) × (s.out ≡ false)
idle_is s e = by_refs (s.refs == 0) refl s.out refl e
  where
    by_refs : (r : Bool) → (s.refs == 0) ≡ r → (o : Bool) → s.out ≡ o → (r && not o) ≡ true → (s.refs ≡ 0) × (s.out ≡ false)
    by_refs true r false o q = (eqb-true s.refs 0 r, o)
    by_refs true r true o q = absurd (cc)
    by_refs false r o p q = absurd (cc)

-- a slot that is read after a write is the written one, or another that stays
data Read (slots : List Slot) (q p : ℕ) (s : Slot) : Type 0 where
  here : (q == p) ≡ true → slot_at (set slots q s) p ≡ s → slot_at slots q ≡ slot_at slots p → Read slots q p s
  there : (q == p) ≡ false → slot_at (set slots q s) p ≡ slot_at slots p → Read slots q p s

read_after : (slots : List Slot) (q p : ℕ) (s : Slot) → q < length slots → Read slots q p s
read_after slots q p s l = by_point (cases_eq p q)
  where
    by_point : (p ≡ q) ⊎ (p ≡ q → ⊥) → Read slots q p s
    by_point (inl same) =
        here (eq-eqb q p (sym same)) (ap (λ (n : ℕ). slot_at (set slots q s) n) same ∙ get_or-set_same slots q s no_slot l)
        (ap (slot_at slots) (sym same))
    by_point (inr other) = there (ne_eqb q p (λ e. other (sym e))) (get_or-set_other slots q p s no_slot other)

-- a fresh point
more_refs : (slots : List Slot) (p : ℕ) → (slot_at (slots ++ busy ∷ []) p).refs ≡ (slot_at slots p).refs
more_refs [] zero = refl
more_refs [] (suc p) = refl
more_refs (x ∷ xs) zero = refl
more_refs (x ∷ xs) (suc p) = more_refs xs p

more_out : (slots : List Slot) (p : ℕ) → (slot_at (slots ++ busy ∷ []) p).out ≡ (if length slots == p then true else (slot_at slots p).out)
more_out [] zero = refl
more_out [] (suc p) = sym (ap (λ (b : Bool). if b then true else false) (ne_eqb 0 (suc p) (λ e. absurd (omega arith))))
more_out (x ∷ xs) zero = sym (ap (λ (b : Bool). if b then true else x.out) (ne_eqb (suc (length xs)) 0 (λ e. absurd (omega arith))))
more_out (x ∷ xs) (suc p) = more_out xs p ∙ ap (λ (b : Bool). if b then true else (slot_at xs p).out) (suc_eq (length xs) p)

-- what a write leaves of a point's references, and of whether it is out
write_refs : (slots : List Slot) (q p : ℕ) (s : Slot) → q < length slots → s.refs ≡ (slot_at slots q).refs → (slot_at (set slots q s) p).refs ≡ (slot_at slots p).refs
write_refs slots q p s l e = by_read (read_after slots q p s l)
  where
    by_read : Read slots q p s → (slot_at (set slots q s) p).refs ≡ (slot_at slots p).refs
    by_read (here a b c) = ap (λ (x : Slot). x.refs) b ∙ e ∙ ap (λ (x : Slot). x.refs) c
    by_read (there a b) = ap (λ (x : Slot). x.refs) b

write_out : (slots : List Slot) (q p : ℕ) (s : Slot) (o : Bool) → q < length slots → s.out ≡ o → (slot_at (set slots q s) p).out ≡ (if q == p then o else (slot_at slots p).out)
write_out slots q p s o l e = by_read (read_after slots q p s l)
  where
    by_read : Read slots q p s → (slot_at (set slots q s) p).out ≡ (if q == p then o else (slot_at slots p).out)
    by_read (here a b c) =
        ap (λ (x : Slot). x.out) b ∙ e ∙ sym (ap (λ (r : Bool). if r then o else (slot_at slots p).out) a)
    by_read (there a b) =
        ap (λ (x : Slot). x.out) b ∙ sym (ap (λ (r : Bool). if r then o else (slot_at slots p).out) a)

write_same : (slots : List Slot) (q p : ℕ) (s : Slot) → q < length slots → s.out ≡ (slot_at slots q).out → (slot_at (set slots q s) p).out ≡ (slot_at slots p).out
write_same slots q p s l e = by_read (read_after slots q p s l)
  where
    by_read : Read slots q p s → (slot_at (set slots q s) p).out ≡ (slot_at slots p).out
    by_read (here a b c) = ap (λ (x : Slot). x.out) b ∙ e ∙ ap (λ (x : Slot). x.out) c
    by_read (there a b) = ap (λ (x : Slot). x.out) b

-- the first free point
first_idle : (t : Live) (q : ℕ) (rest : List ℕ) → KeepsLive t → t.free ≡ q ∷ rest → (q < length t.slots) × (is_idle (slot_at t.slots q) ≡ true)
first_idle t q rest k e = let idle = subst (AreIdle t.slots) e k.points.idle in (idle.0, idle.1.0)

first_out : (t : Live) (x : Given) (rest : List Given) → KeepsLive t → t.ops ≡ x ∷ rest → x.point < length t.slots
first_out t x rest k e = (subst (AreOut t.slots) e k.out).0

cancelled_out : (t : Live) (x : Given) → KeepsLive t → MayCome t (cancelling x) → x.point < length t.slots
cancelled_out t x k m =
    let may = may_cancel t x k m in (at_out t.slots may.0 t.ops x k.out may.1.there).0

-- event by event
take_refs : (t : Live) (p v : ℕ) → KeepsLive t → (slot_at (after_take t v).slots p).refs ≡ (slot_at t.slots p).refs
take_refs t p v k = by_free t.free refl
  where
    by_free : (free : List ℕ) → t.free ≡ free → (slot_at (slots_from free t.slots) p).refs ≡ (slot_at t.slots p).refs
    by_free [] e = more_refs t.slots p
    by_free (q ∷ rest) e =
        let idle = first_idle t q rest k e in
        write_refs t.slots q p busy idle.0 (sym (idle_is (slot_at t.slots q) idle.1).0)

take_out : (t : Live) (p v : ℕ) → KeepsLive t → (slot_at (after_take t v).slots p).out ≡ (if next_point t == p then true else (slot_at t.slots p).out)
take_out t p v k = by_free t.free refl
  where
    by_free : (free : List ℕ) → t.free ≡ free → (slot_at (slots_from free t.slots) p).out ≡ (if point_from free (length t.slots) == p then true else (slot_at t.slots p).out)
    by_free [] e = more_out t.slots p
    by_free (q ∷ rest) e = write_out t.slots q p busy true (first_idle t q rest k e).0 refl

refer_refs : (slots : List Slot) (q p : ℕ) → q < length slots → (slot_at (set slots q (record { refs = (slot_at slots q).refs + 1; out = true })) p).refs + 0 ≡ (slot_at slots p).refs + one_if (q == p)
refer_refs slots q p l = by_read (read_after slots q p (record { refs = (slot_at slots q).refs + 1; out = true }) l)
  where
    by_read : Read slots q p (record { refs = (slot_at slots q).refs + 1; out = true }) → (slot_at (set slots q (record { refs = (slot_at slots q).refs + 1; out = true })) p).refs + 0 ≡ (slot_at slots p).refs + one_if (q == p)
    by_read (here a b c) =
        let one : one_if (q == p) ≡ 1 = ap one_if a in
        let now = ap (λ (x : Slot). x.refs) b in
        let old : (slot_at slots q).refs ≡ (slot_at slots p).refs = ap (λ (x : Slot). x.refs) c in
        omega arith
    by_read (there a b) =
        let one : one_if (q == p) ≡ 0 = ap one_if a in
        let now = ap (λ (x : Slot). x.refs) b in
        omega arith

unref_refs : (slots : List Slot) (q p : ℕ) (o : Bool) → q < length slots → 0 < (slot_at slots q).refs → (slot_at (set slots q (record { refs = (slot_at slots q).refs - 1; out = o })) p).refs + one_if (q == p) ≡ (slot_at slots p).refs + 0
unref_refs slots q p o l h = by_read (read_after slots q p (record { refs = (slot_at slots q).refs - 1; out = o }) l)
  where
    by_read : Read slots q p (record { refs = (slot_at slots q).refs - 1; out = o }) → (slot_at (set slots q (record { refs = (slot_at slots q).refs - 1; out = o })) p).refs + one_if (q == p) ≡ (slot_at slots p).refs + 0
    by_read (here a b c) =
        let one : one_if (q == p) ≡ 1 = ap one_if a in
        let now = ap (λ (x : Slot). x.refs) b in
        let old : (slot_at slots q).refs ≡ (slot_at slots p).refs = ap (λ (x : Slot). x.refs) c in
        omega arith
    by_read (there a b) =
        let one : one_if (q == p) ≡ 0 = ap one_if a in
        let now = ap (λ (x : Slot). x.refs) b in
        omega arith

pub event_refs : (t : Live) (p : ℕ) (e : Event) → KeepsLive t → MayCome t e → (slot_at (after t e).slots p).refs + one_if (returns_it p e) ≡ (slot_at t.slots p).refs + one_if (refers p e)
event_refs t p (taking x) k m = let same = take_refs t p x.value k in omega arith
event_refs t p (installing x) k m = refl
event_refs t p (completing x) k m =
    let gives = complete_gives t x m in
    let same : (slot_at (after_complete t).slots p).refs ≡ (slot_at t.slots p).refs =
    sym (ap (λ (u : Live). (slot_at u.slots p).refs) gives.3)
    ∙ write_refs t.slots x.point p (done_slot t x.point) (first_out t x gives.0 k gives.1) refl in
    omega arith
event_refs t p (cancelling x) k m =
    let same = write_refs t.slots x.point p (done_slot t x.point) (cancelled_out t x k m) refl in omega arith
event_refs t p (referring q) k m = refer_refs t.slots q p (out_exists t.slots q (refer_out t q m))
event_refs t p (returning q) k m = unref_refs t.slots q p (slot_at t.slots q).out (held_exists t.slots q m) m
event_refs t p (signaling v) k m = refl
event_refs t p (reserving n) k m = refl

pub event_out : (t : Live) (p : ℕ) (e : Event) → KeepsLive t → MayCome t e → (slot_at (after t e).slots p).out ≡ carried_after p (slot_at t.slots p).out e
event_out t p (taking x) k m =
    take_out t p x.value k
    ∙ ap (λ (y : Given). if y.point == p then true else (slot_at t.slots p).out) (sym m.1)
event_out t p (installing x) k m = refl
event_out t p (completing x) k m =
    let gives = complete_gives t x m in
    sym (ap (λ (u : Live). (slot_at u.slots p).out) gives.3)
    ∙ write_out t.slots x.point p (done_slot t x.point) false (first_out t x gives.0 k gives.1) refl
event_out t p (cancelling x) k m =
    write_out t.slots x.point p (done_slot t x.point) false (cancelled_out t x k m) refl
event_out t p (referring q) k m =
    let out = refer_out t q m in
    write_same t.slots q p (record { refs = (slot_at t.slots q).refs + 1; out = true }) (out_exists t.slots q out) (sym out)
event_out t p (returning q) k m =
    write_same t.slots q p (record { refs = (slot_at t.slots q).refs - 1; out = (slot_at t.slots q).out }) (held_exists t.slots q m) refl
event_out t p (signaling v) k m = refl
event_out t p (reserving n) k m = refl

-- along a run
run_refs : (t : Live) (p : ℕ) (events : List Event) → KeepsLive t → IsRun t events → (slot_at (after_all t events).slots p).refs + times (returns_it p) events ≡ (slot_at t.slots p).refs + times (refers p) events
run_refs t p [] k r = refl
run_refs t p (e ∷ events) k r =
    let first = event_refs t p e k r.0 in
    let rest = run_refs (after t e) p events (event_keeps t e k r.0) r.1 in
    omega arith

run_out : (t : Live) (p : ℕ) (events : List Event) → KeepsLive t → IsRun t events → (slot_at (after_all t events).slots p).out ≡ is_carried p (slot_at t.slots p).out events
run_out t p [] k r = refl
run_out t p (e ∷ events) k r =
    run_out (after t e) p events (event_keeps t e k r.0) r.1
    ∙ ap (λ (b : Bool). is_carried p b events) (event_out t p e k r.0)

pub next_idle : (t : Live) → KeepsLive t → ((slot_at t.slots (next_point t)).refs ≡ 0) × ((slot_at t.slots (next_point t)).out ≡ false)
next_idle t k = by_free t.free refl
  where
    by_free : (free : List ℕ) → t.free ≡ free → ((slot_at t.slots (point_from free (length t.slots))).refs ≡ 0) × ((slot_at t.slots (point_from free (length t.slots))).out ≡ false)
    by_free [] e =
        let none = get_or_past t.slots (length t.slots) no_slot (omega arith) in
        (ap (λ (s : Slot). s.refs) none, ap (λ (s : Slot). s.out) none)
    by_free (q ∷ rest) e = idle_is (slot_at t.slots q) (first_idle t q rest k e).1

pub given_when_left : (initial : ℕ) (events : List Event) (x : Given) → IsRun (opened initial) events → MayCome (after_all (opened initial) events) (taking x) → IsLeft x.point events
given_when_left initial events x r m =
    let k = opened_keeps initial in
    let u = after_all (opened initial) events in
    let point : x.point ≡ next_point u = ap (λ (y : Given). y.point) m.1 in
    let idle = next_idle u (run_keeps (opened initial) events k r) in
    let out : (slot_at u.slots x.point).out ≡ false = ap (λ (n : ℕ). (slot_at u.slots n).out) point ∙ idle.1 in
    let refs : (slot_at u.slots x.point).refs ≡ 0 = ap (λ (n : ℕ). (slot_at u.slots n).refs) point ∙ idle.0 in
    let all = run_refs (opened initial) x.point events k r in
    record {
      carries_none = sym (run_out (opened initial) x.point events k r) ∙ out;
      all_returned = omega arith;
    }

-- how many points are made
used_idle : (slots : List Slot) → count_of is_used slots + count_of is_idle slots ≡ length slots
used_idle [] = refl
used_idle (s ∷ slots) =
    let rest = used_idle slots in let one = either (is_idle s) in omega arith
  where
    either : (b : Bool) → one_if (not b) + one_if b ≡ 1
    either true = refl
    either false = refl

take_made : (t : Live) (v n : ℕ) → KeepsLive (after_take t v) → length t.slots ≤ n → used_count (after_take t v) ≤ n → length (after_take t v).slots ≤ n
take_made t v n k l u = by_free t.free refl
  where
    by_free : (free : List ℕ) → t.free ≡ free → length (slots_from free t.slots) ≤ n
    by_free [] e =
        let used = used_idle (after_take t v).slots in
        let none : length (after_take t v).free ≡ 0 = ap (λ (f : List ℕ). length (drop 1 f)) e in
        let lost = k.points.none_lost in
        let made : length (after_take t v).slots ≡ length (slots_from [] t.slots) = ap (λ (f : List ℕ). length (slots_from f t.slots)) e in
        omega arith
    by_free (q ∷ rest) e = let size = length-set t.slots q busy in omega arith

event_made : (t : Live) (e : Event) (n : ℕ) → KeepsLive t → MayCome t e → length t.slots ≤ n → used_count (after t e) ≤ n → length (after t e).slots ≤ n
event_made t (taking x) n k m l u = take_made t x.value n (event_keeps t (taking x) k m) l u
event_made t (installing x) n k m l u = l
event_made t (completing x) n k m l u =
    let gives = complete_gives t x m in
    let same = ap (λ (w : Live). length w.slots) gives.3 in
    let size = length-set t.slots x.point (done_slot t x.point) in
    omega arith
event_made t (cancelling x) n k m l u = let size = length-set t.slots x.point (done_slot t x.point) in omega arith
event_made t (referring q) n k m l u =
    let size = length-set t.slots q (record { refs = (slot_at t.slots q).refs + 1; out = true }) in omega arith
event_made t (returning q) n k m l u =
    let size = length-set t.slots q (record { refs = (slot_at t.slots q).refs - 1; out = (slot_at t.slots q).out }) in omega arith
event_made t (signaling v) n k m l u = l
event_made t (reserving c) n k m l u = l

uses_now : (n : ℕ) (t : Live) (events : List Event) → UsesAtMost n t events → used_count t ≤ n
uses_now n t [] u = u
uses_now n t (e ∷ events) u = u.0

run_made : (t : Live) (events : List Event) (n : ℕ) → KeepsLive t → IsRun t events → UsesAtMost n t events → length t.slots ≤ n → length (after_all t events).slots ≤ n
run_made t [] n k r u l = l
run_made t (e ∷ events) n k r u l =
    run_made (after t e) events n (event_keeps t e k r.0) r.1 u.1
    (event_made t e n k r.0 l (uses_now n (after t e) events u.1))

pub points_bounded : (initial n : ℕ) (events : List Event) → IsRun (opened initial) events → UsesAtMost n (opened initial) events → length (after_all (opened initial) events).slots ≤ n
points_bounded initial n events r u = run_made (opened initial) events n (opened_keeps initial) r u (omega arith)
