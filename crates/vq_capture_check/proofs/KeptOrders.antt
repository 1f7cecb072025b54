-- Lines in their order, and those of accesses.
use Rattle.std.proofs.lemmas.List.{get_or_default}
use Rattle.std.proofs.Common.{zero, suc, ◌≡◌, ◌⊎◌, ◌<◌, ◌≤◌, ◌+◌, ◌-◌, ◌∙◌, Bool, true, false, ℕ, List, [], ◌∷◌, ◌++◌, refl, sym, ap, subst, arith, length, get_or, take, inl, inr, Some}
use Rattle.std.specs.Prelude.{slice_get, nat_le}
use Rattle.std.specs.List.Sorted.{IsPermutation, IsSorted}
use Rattle.std.specs.Ordering.{nat_cmp}
use Rattle.std.proofs.Math.Seq.{take-suc}
use Rattle.std.proofs.lemmas.List.Sorted.{Contains-permutation}
use Rattle.std.proofs.lemmas.Map.Keys.{ge_from_not_lt}
use Rattle.std.proofs.lemmas.Option.{slice_get-get_or}
use Rattle.vq_ground.specs.Lists.{has}
use Rattle.vq_ground.proofs.Lists.{has_here, has-append_left, has-append_right}
use Rattle.vq_ground.proofs.Gets.{has_at}
use Rattle.vq_capture.specs.Points.{IsMember}
use Rattle.vq_capture_touched.specs.declared.touch.Touch.{Touch}
use Rattle.vq_capture_clocks.specs.Levels.{AreInOrder, is_listed}
use Rattle.vq_capture_check.specs.Alike.{IsAsked}
use Rattle.vq_capture_check.specs.Watching.{Touched, all_touched}
use Rattle.vq_ground.proofs.Tests.{at_most_test}
use Rattle.std.proofs.lemmas.Bool.{or_left, or_right}
use Rattle.vq_capture_clocks.proofs.Cited.{place_of}

some_same : (x y : ℕ) → Some x ≡ Some y → x ≡ y
some_same x y e = cc

module _ (xs : List ℕ) (order : AreInOrder xs) (x : ℕ) where
  -- none is in front of the first
  pub from_first : slice_get xs 0 ≡ Some x → (m : ℕ) → has xs m ≡ true → x ≤ m
  from_first e m h =
      let r = place_of xs m h in
      let first : get_or xs 0 0 ≡ x = some_same (get_or xs 0 0) x (sym (slice_get-get_or xs 0 0 (let l = r.1 in omega arith)) ∙ e) in
      let o = order 0 r.0 0 (omega arith) r.1 in
      let q = r.2 in
      omega arith

  -- none is behind the last
  pub to_last : slice_get xs (length xs - 1) ≡ Some x → (m : ℕ) → x < m → has xs m ≡ false
  to_last e m l = by (has xs m) refl
    where
      by : (b : Bool) → has xs m ≡ b → has xs m ≡ false
      by false h = h
      by true h = absurd (none (place_of xs m h))
        where
          none : (i : ℕ) × (i < length xs) × (get_or xs i 0 ≡ m) → ⊥
          none (i, k, q) =
              let last : get_or xs (length xs - 1) 0 ≡ x = some_same (get_or xs (length xs - 1) 0) x (sym (slice_get-get_or xs (length xs - 1) 0 (omega arith)) ∙ e) in
              let o = order i (length xs - 1) 0 (omega arith) (omega arith) in
              omega arith

-- Lines of accesses

pub in_either : (t : Touch) (xs ys : List Touch) → IsMember t (xs ++ ys) → IsMember t xs ⊎ IsMember t ys
in_either t [] ys m = inr m
in_either t (x ∷ xs) ys (inl e) = inl (inl e)
in_either t (x ∷ xs) ys (inr m) = elim (in_either t xs ys m) [ inl i ↦ inl (inr i) | inr i ↦ inr i ]

pub line_added : (xs : List ℕ) (ts : List Touch) (i : ℕ) (t d : Touch) → i < length ts → t ≡ get_or ts i d → ((u : Touch) → IsMember u (take i ts) → has xs u.step.line ≡ true) → (u : Touch) → IsMember u (take (i + 1) ts) → has (xs ++ t.step.line ∷ []) u.step.line ≡ true
line_added xs ts i t d l e f u m =
    let n : i + 1 ≡ suc i = omega arith in
    elim (in_either u (take i ts) (get_or ts i d ∷ []) (subst (λ (us : List Touch). IsMember u us) (ap (λ (k : ℕ). take k ts) n ∙ take-suc ts i d l) m)) [
      | inl a ↦ has-append_left xs (t.step.line ∷ []) u.step.line (f u a)
      | inr a ↦ last a
    ]
  where
    last : IsMember u (get_or ts i d ∷ []) → has (xs ++ t.step.line ∷ []) u.step.line ≡ true
    last (inl q) =
        subst (λ (k : ℕ). has (xs ++ t.step.line ∷ []) k ≡ true) (ap (λ (v : Touch). v.step.line) (e ∙ sym q))
        (has-append_right xs (t.step.line ∷ []) t.step.line (has_here t.step.line []))
    last (inr q) = absurd q

-- what was sorted is in order, and has what it had
pub sorted_in_order : (ys : List ℕ) → IsSorted nat_cmp ys → AreInOrder ys
sorted_in_order ys s i k d l m =
    let e : i + (k - i) ≡ k = omega arith in
    subst (λ (j : ℕ). get_or ys i d ≤ get_or ys j d) e (go (k - i) (omega arith))
  where
    next : (j : ℕ) → j + 1 < length ys → get_or ys j d ≤ get_or ys (j + 1) d
    next j n = ge_from_not_lt (get_or ys (j + 1) d) (get_or ys j d) (s j d (omega arith) n)

    go : (n : ℕ) → i + n < length ys → get_or ys i d ≤ get_or ys (i + n) d
    go zero h =
        let e : i + 0 ≡ i = omega arith in
        subst (λ (j : ℕ). get_or ys i d ≤ get_or ys j d) (sym e) (omega arith)
    go (suc n) h =
        let before = go n (omega arith) in
        let one = next (i + n) (omega arith) in
        let e : (i + n) + 1 ≡ i + suc n = omega arith in
        subst (λ (j : ℕ). get_or ys i d ≤ get_or ys j d) e (omega arith)

pub sorted_has : (xs ys : List ℕ) → IsPermutation xs ys → (l : ℕ) → has xs l ≡ true → has ys l ≡ true
sorted_has xs ys p l h =
    let r = place_of xs l h in
    let c = Contains-permutation xs ys l p (r.0, r.1, at r.0 r.1 r.2) in
    subst (λ (k : ℕ). has ys k ≡ true) (in_range c.0 c.1 ∙ c.2) (has_at ys c.0 c.1)
  where
    at : (i : ℕ) → i < length xs → get_or xs i 0 ≡ l → get_or xs i l ≡ l
    at i k e = sym (get_or_default xs i 0 l k) ∙ e

    in_range : (i : ℕ) → i < length ys → get_or ys i 0 ≡ get_or ys i l
    in_range i k = get_or_default ys i 0 l k

-- The lines that are asked are those of the accesses that are kept, and those to come.
pub listed_asked : (lines : List ℕ) (touched : ℕ → Touched) (next : ℕ) → ((r : ℕ) (t : Touch) → IsMember t (all_touched (touched r)) → has lines t.step.line ≡ true) → (line lane : ℕ) → IsAsked touched next line lane → is_listed lines next line ≡ true
listed_asked lines touched next f line lane (inl l) =
    or_left (nat_le next line) (has lines line) (at_most_test next line l)
listed_asked lines touched next f line lane (inr (r, t, x, m, e, p, g)) =
    or_right (nat_le next line) (has lines line) (subst (λ (k : ℕ). has lines k ≡ true) e (f r t m))
