-- Slots of points: what a write leaves of the parts of the law that speak of them.
use Rattle.std.proofs.Common.{◌≡◌, ℕ, zero, suc, ◌+◌, ◌<◌, ◌≤◌, Bool, true, false, not, List, [], ◌∷◌, ◌++◌, length, get_or, set, refl, sym, ◌∙◌, ap, arith, subst, ◌⊎◌, inl, inr}
use Rattle.std.specs.Prelude.{◌==◌, ◌&&◌, nat_lt, if◌then◌else◌}
use Rattle.std.proofs.lemmas.Bool.Decides.{nat_tests}
use Rattle.vq_live.specs.declared.answers.Given.{Given}
use Rattle.vq_live.specs.declared.answers.Slot.{Slot}
use Rattle.std.proofs.lemmas.Bool.{cases_eq}
use Rattle.std.proofs.lemmas.List.{get_or_read, length-set, get_or-set_same, get_or-set_other, get_or_append_left, length-append}
use Rattle.vq_live.specs.Live.{KeepsFree, AreOut, AreIdle, IsUnused, IsAbsent, slot_at, no_slot, is_idle, count_of, one_if}
use Rattle.vq_live.specs.Calls.{busy}

-- a point that carries an operation isn't idle, and neither is one that is held
pub out_busy : (s : Slot) → s.out ≡ true → is_idle s ≡ false
out_busy s e = by_out s.out e
  where
    by_out : (b : Bool) → b ≡ true → ((s.refs == 0) && not b) ≡ false
    by_out true h = by_refs (s.refs == 0)
      where
        by_refs : (r : Bool) → (r && false) ≡ false
        by_refs true = refl
        by_refs false = refl
    by_out false h = absurd (cc)

pub held_busy : (s : Slot) → 0 < s.refs → is_idle s ≡ false
held_busy s l = let e : (s.refs == 0) ≡ false = grind (arith, nat_tests) in ap (λ (b : Bool). b && not s.out) e

-- slots after a write
pub slot_same : (slots : List Slot) (p : ℕ) (s : Slot) → p < length slots → slot_at (set slots p s) p ≡ s
slot_same slots p s l = get_or-set_same slots p s no_slot l

pub out_unused : (slots : List Slot) (ops : List Given) (p : ℕ) (s : Slot) → AreOut slots ops → IsUnused p ops → AreOut (set slots p s) ops
out_unused slots [] p s h u = tt
out_unused slots (x ∷ xs) p s h u = (
  subst (λ (n : ℕ). x.point < n) (sym (length-set slots p s)) h.0,
  (
    ap (λ (y : Slot). y.out) (get_or-set_other slots p x.point s no_slot u.0) ∙ h.1.0,
    out_unused slots xs p s h.1.1 u.1,
  ),
)

pub out_out : (slots : List Slot) (ops : List Given) (p : ℕ) (s : Slot) → AreOut slots ops → s.out ≡ true → AreOut (set slots p s) ops
out_out slots [] p s h e = tt
out_out slots (x ∷ xs) p s h e = (
  subst (λ (n : ℕ). x.point < n) (sym (length-set slots p s)) h.0,
  (
    by_point (cases_eq x.point p),
    out_out slots xs p s h.1.1 e,
  ),
)
  where
    by_point : (x.point ≡ p) ⊎ (x.point ≡ p → ⊥) → (slot_at (set slots p s) x.point).out ≡ true
    by_point (inl same) =
        ap (λ (q : ℕ). (slot_at (set slots p s) q).out) same
        ∙ ap (λ (y : Slot). y.out) (slot_same slots p s (subst (λ (q : ℕ). q < length slots) same h.0))
        ∙ e
    by_point (inr other) = ap (λ (y : Slot). y.out) (get_or-set_other slots p x.point s no_slot other) ∙ h.1.0

pub out_more : (slots : List Slot) (ops : List Given) (s : Slot) → AreOut slots ops → AreOut (slots ++ s ∷ []) ops
out_more slots [] s h = tt
out_more slots (x ∷ xs) s h =
    let l = h.0 in
    let n = length-append slots (s ∷ []) in (
      omega arith,
      (
        ap (λ (y : Slot). y.out) (get_or_append_left slots (s ∷ []) no_slot x.point l) ∙ h.1.0,
        out_more slots xs s h.1.1,
      ),
    )

pub idle_set : (slots : List Slot) (free : List ℕ) (p : ℕ) (s : Slot) → AreIdle slots free → IsAbsent p free → AreIdle (set slots p s) free
idle_set slots [] p s h u = tt
idle_set slots (x ∷ xs) p s h u = (
  subst (λ (n : ℕ). x < n) (sym (length-set slots p s)) h.0,
  (
    ap is_idle (get_or-set_other slots p x s no_slot u.0) ∙ h.1.0,
    idle_set slots xs p s h.1.1 u.1,
  ),
)

pub busy_absent : (slots : List Slot) (free : List ℕ) (p : ℕ) → AreIdle slots free → is_idle (slot_at slots p) ≡ false → IsAbsent p free
busy_absent slots [] p h e = tt
busy_absent slots (x ∷ xs) p h e = (
  λ same. let idle = h.1.0 in let both = ap (λ (q : ℕ). is_idle (slot_at slots q)) same in absurd (cc),
  busy_absent slots xs p h.1.1 e,
)

pub idle_unused : (slots : List Slot) (ops : List Given) (p : ℕ) → AreOut slots ops → is_idle (slot_at slots p) ≡ true → IsUnused p ops
idle_unused slots [] p h e = tt
idle_unused slots (x ∷ xs) p h e = (
  λ same. let out = out_busy (slot_at slots x.point) h.1.0 in let both = ap (λ (q : ℕ). is_idle (slot_at slots q)) same in absurd (cc),
  idle_unused slots xs p h.1.1 e,
)

pub fresh_unused : (slots : List Slot) (ops : List Given) → AreOut slots ops → IsUnused (length slots) ops
fresh_unused slots [] h = tt
fresh_unused slots (x ∷ xs) h = (λ same. let l = h.0 in absurd (omega arith), fresh_unused slots xs h.1.1)

-- how many slots pass a test
pub count_set : (f : Slot → Bool) (slots : List Slot) (p : ℕ) (s : Slot) → p < length slots → count_of f (set slots p s) + one_if (f (slot_at slots p)) ≡ count_of f slots + one_if (f s)
count_set f [] p s l = absurd (omega arith)
count_set f (x ∷ xs) zero s l = omega arith
count_set f (x ∷ xs) (suc p) s l = let rest = count_set f xs p s (omega arith) in omega arith

pub count_more : (f : Slot → Bool) (slots : List Slot) (s : Slot) → count_of f (slots ++ s ∷ []) ≡ count_of f slots + one_if (f s)
count_more f [] s = omega arith
count_more f (x ∷ xs) s = let rest = count_more f xs s in omega arith

pub at_most_one : (b : Bool) → one_if b ≤ 1
at_most_one true = omega arith
at_most_one false = omega arith

pub count_le : (f : Slot → Bool) (slots : List Slot) → count_of f slots ≤ length slots
count_le f [] = omega arith
count_le f (x ∷ xs) = let rest = count_le f xs in let one = at_most_one (f x) in omega arith

pub count_less : (f : Slot → Bool) (slots : List Slot) (p : ℕ) → p < length slots → f (slot_at slots p) ≡ false → count_of f slots < length slots
count_less f [] p l e = absurd (omega arith)
count_less f (x ∷ xs) zero l e =
    let rest = count_le f xs in
    let none : one_if (f x) ≡ 0 = ap one_if e in
    omega arith
count_less f (x ∷ xs) (suc p) l e =
    let rest = count_less f xs p (omega arith) e in let one = at_most_one (f x) in omega arith

-- a written slot that passes a test as the one before it did
pub count_same : (f : Slot → Bool) (slots : List Slot) (p : ℕ) (s : Slot) → p < length slots → f s ≡ f (slot_at slots p) → count_of f (set slots p s) ≡ count_of f slots
count_same f slots p s l e =
    let more = count_set f slots p s l in
    let same : one_if (f s) ≡ one_if (f (slot_at slots p)) = ap one_if e in
    omega arith

-- a point's slot is written, which wasn't idle
pub put_free : (slots : List Slot) (free : List ℕ) (p : ℕ) (s : Slot) → KeepsFree slots free → p < length slots → is_idle (slot_at slots p) ≡ false → KeepsFree (set slots p s) (if is_idle s then p ∷ free else free)
put_free slots free p s k l e = by_idle (is_idle s) refl
  where
    absent : IsAbsent p free
    absent = busy_absent slots free p k.idle e

    count : count_of is_idle (set slots p s) ≡ count_of is_idle slots + one_if (is_idle s)
    count =
        let more = count_set is_idle slots p s l in
        let none : one_if (is_idle (slot_at slots p)) ≡ 0 = ap one_if e in
        omega arith

    by_idle : (b : Bool) → is_idle s ≡ b → KeepsFree (set slots p s) (if b then p ∷ free else free)
    by_idle true i =
        let one : one_if (is_idle s) ≡ 1 = ap one_if i in
        let all = k.none_lost in
        let more = count in
        record {
          idle = (
            subst (λ (n : ℕ). p < n) (sym (length-set slots p s)) l,
            (
              ap is_idle (slot_same slots p s l) ∙ i,
              idle_set slots free p s k.idle absent,
            ),
          );
          distinct = (absent, k.distinct);
          none_lost = omega arith;
        }
    by_idle false i =
        let one : one_if (is_idle s) ≡ 0 = ap one_if i in
        let all = k.none_lost in
        let more = count in
        record { idle = idle_set slots free p s k.idle absent; distinct = k.distinct; none_lost = omega arith }

-- a free point is used again, and a fresh one is made
pub reuse_free : (slots : List Slot) (p : ℕ) (free : List ℕ) → KeepsFree slots (p ∷ free) → KeepsFree (set slots p busy) free
reuse_free slots p free k =
    let more = count_set is_idle slots p busy k.idle.0 in
    let one : one_if (is_idle (slot_at slots p)) ≡ 1 = ap one_if k.idle.1.0 in
    let all = k.none_lost in
    record {
      idle = idle_set slots free p busy k.idle.1.1 k.distinct.0;
      distinct = k.distinct.1;
      none_lost = omega arith;
    }

pub fresh_free : (slots : List Slot) → KeepsFree slots [] → KeepsFree (slots ++ busy ∷ []) []
fresh_free slots k =
    let more = count_more is_idle slots busy in
    let all = k.none_lost in
    record { idle = tt; distinct = tt; none_lost = omega arith }

-- a slot that was found
pub slot_found : (slots now : List Slot) (p : ℕ) (s : Slot) → now ≡ slots → true ≡ nat_lt p (length now) → s ≡ get_or now p s → (p < length slots) × (s ≡ slot_at slots p)
slot_found slots now p s e h m =
    let l : p < length slots = less_test p (length slots) (ap (λ (xs : List Slot). nat_lt p (length xs)) (sym e) ∙ sym h) in
    (l, get_or_read slots p s l (subst (λ (xs : List Slot). s ≡ get_or xs p s) e m) no_slot)
  where
    less_test : (a b : ℕ) → nat_lt a b ≡ true → a < b
    less_test a b t = grind (arith, nat_tests)
