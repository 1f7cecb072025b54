-- The points are parted.
use Rattle.std.proofs.Common.{◌≡◌, ℕ, ◌+◌, ◌<◌, ◌≤◌, Bool, true, false, not, List, [], ◌∷◌, length, set, refl, ◌∙◌, ap, arith, subst}
use Rattle.std.specs.Prelude.{◌==◌, ◌&&◌, ◌||◌}
use Rattle.std.proofs.lemmas.Bool.Decides.{nat_tests}
use Rattle.std.proofs.lemmas.Bool.{or_parts, eqb-true}
use Rattle.vq_ground.proofs.Bools.{same_tests}
use Rattle.vq_live.specs.declared.answers.Given.{Given}
use Rattle.vq_live.specs.declared.answers.Slot.{Slot}
use Rattle.vq_live.specs.Live.{Live, KeepsLive, KeepsFree, AreOut, AreIdle, IsUnused, CarryOnce, IsAbsent, AreDistinct, slot_at, no_slot, is_out, is_idle, is_only_held, one_if, count_of, carries, is_among, AreParted}
use Rattle.vq_live.specs.Calls.{busy}
use Rattle.vq_live.proofs.Slots.{idle_set, out_unused, count_set}

isnt_equal : (a b : ℕ) → (a == b) ≡ false → a ≡ b → ⊥
isnt_equal a b e = grind (arith, nat_tests)

-- distinct idle points are at most all idle ones, and points of operations at most those that are out
count_most : (slots : List Slot) (xs : List ℕ) → AreIdle slots xs → AreDistinct xs → length xs ≤ count_of is_idle slots
count_most slots [] h d = omega arith
count_most slots (x ∷ xs) h d =
    let rest = count_most (set slots x busy) xs (idle_set slots xs x busy h.1.1 d.0) d.1 in
    let more = count_set is_idle slots x busy h.0 in
    let one : one_if (is_idle (slot_at slots x)) ≡ 1 = ap one_if h.1.0 in
    omega arith

out_most : (slots : List Slot) (ops : List Given) → AreOut slots ops → CarryOnce ops → length ops ≤ count_of is_out slots
out_most slots [] h c = omega arith
out_most slots (x ∷ xs) h c =
    let rest = out_most (set slots x.point no_slot) xs (out_unused slots xs x.point no_slot h.1.1 c.0) c.1 in
    let more = count_set is_out slots x.point no_slot h.0 in
    let one : one_if (is_out (slot_at slots x.point)) ≡ 1 = ap one_if h.1.0 in
    omega arith

-- what a test that fails says
absent_of : (p : ℕ) (free : List ℕ) → is_among free p ≡ false → IsAbsent p free
absent_of p [] h = tt
absent_of p (x ∷ xs) h =
    let both = or_parts (x == p) (is_among xs p) h in
    (isnt_equal x p both.0, absent_of p xs both.1)

unused_of : (p : ℕ) (ops : List Given) → carries ops p ≡ false → IsUnused p ops
unused_of p [] h = tt
unused_of p (x ∷ xs) h =
    let both = or_parts (x.point == p) (carries xs p) h in
    (isnt_equal x.point p both.0, unused_of p xs both.1)

-- each point is where its slot says
among_idle : (slots : List Slot) (free : List ℕ) (p : ℕ) → AreIdle slots free → is_among free p ≡ true → is_idle (slot_at slots p) ≡ true
among_idle slots [] p h e = absurd (cc)
among_idle slots (x ∷ xs) p h e = by_test (x == p) refl e (among_idle slots xs p h.1.1)
  where
    by_test : (b : Bool) → (x == p) ≡ b → (b || is_among xs p) ≡ true → (is_among xs p ≡ true → is_idle (slot_at slots p) ≡ true) → is_idle (slot_at slots p) ≡ true
    by_test true q r rest = subst (λ (n : ℕ). is_idle (slot_at slots n) ≡ true) (eqb-true x p q) h.1.0
    by_test false q r rest = rest r

idle_among : (slots : List Slot) (free : List ℕ) (p : ℕ) → KeepsFree slots free → p < length slots → is_idle (slot_at slots p) ≡ true → is_among free p ≡ true
idle_among slots free p k l e = by_test (is_among free p) refl
  where
    by_test : (b : Bool) → is_among free p ≡ b → is_among free p ≡ true
    by_test true q = q
    by_test false q =
        let more = count_most slots (p ∷ free) (l, (e, k.idle)) (absent_of p free q, k.distinct) in
        let all = k.none_lost in
        absurd (omega arith)

carried_out : (slots : List Slot) (ops : List Given) (p : ℕ) → AreOut slots ops → carries ops p ≡ true → (slot_at slots p).out ≡ true
carried_out slots [] p h e = absurd (cc)
carried_out slots (x ∷ xs) p h e = by_test (x.point == p) refl e (carried_out slots xs p h.1.1)
  where
    by_test : (b : Bool) → (x.point == p) ≡ b → (b || carries xs p) ≡ true → (carries xs p ≡ true → (slot_at slots p).out ≡ true) → (slot_at slots p).out ≡ true
    by_test true q r rest = subst (λ (n : ℕ). (slot_at slots n).out ≡ true) (eqb-true x.point p q) h.1.0
    by_test false q r rest = rest r

out_carried : (t : Live) (p : ℕ) → KeepsLive t → p < length t.slots → (slot_at t.slots p).out ≡ true → carries t.ops p ≡ true
out_carried t p k l e = by_test (carries t.ops p) refl
  where
    by_test : (b : Bool) → carries t.ops p ≡ b → carries t.ops p ≡ true
    by_test true q = q
    by_test false q =
        let y : Given = record { value = 0; point = p } in
        let more = out_most t.slots (y ∷ t.ops) (l, (e, k.out)) (unused_of p t.ops q, k.once) in
        let all = k.each_out in
        absurd (omega arith)

-- the three parts of a slot
slot_parts : (s : Slot) → one_if s.out + one_if (is_only_held s) + one_if (is_idle s) ≡ 1
slot_parts s = by_out s.out (s.refs == 0)
  where
    by_out : (out none : Bool) → one_if out + one_if (not none && not out) + one_if (none && not out) ≡ 1
    by_out true true = refl
    by_out true false = refl
    by_out false true = refl
    by_out false false = refl

pub parted : (t : Live) → KeepsLive t → AreParted t
parted t k p l =
    let s = slot_at t.slots p in
    let carried = same_tests (carries t.ops p) s.out (carried_out t.slots t.ops p k.out) (out_carried t p k l) in
    let free = same_tests (is_among t.free p) (is_idle s) (among_idle t.slots t.free p k.points.idle) (idle_among t.slots t.free p k.points l) in
    (λ i. one_if (carried i) + one_if (is_only_held s) + one_if (free i)) ∙ slot_parts s
