-- Where a number stands in a list.
use Rattle.std.proofs.Common.{ℕ, eqb, List, ◌≡◌, ◌+◌, not, ◌∷◌, refl, ap, false, [], ◌++◌, length, arith, Bool, true, cond, suc, ◌<◌, Some, None, subst, ◌∙◌, length-append}
use Rattle.std.specs.List.{position_or_len, slice_get, position, list_any}
use Rattle.std.proofs.lemmas.Bool.{eq-eqb, cond-false, cond-true, or_parts, ltb-true, lt-ltb}
use Rattle.std.specs.Prelude.{nat_lt}
use Rattle.std.proofs.lemmas.List.Folds.{position_or_len_push}
use Rattle.vq_ground.specs.Lists.{has}

abbrev pub place : List ℕ → ℕ → ℕ
place xs x = position_or_len (λ k. eqb k x) xs

pub place_head : (x : ℕ) (xs : List ℕ) → place (x ∷ xs) x ≡ 0
place_head x xs = cond-false (not (eqb x x)) (1 + place xs x) 0 (ap not (eq-eqb x x refl))

pub place_tail : (y : ℕ) (xs : List ℕ) (x : ℕ) → eqb y x ≡ false → place (y ∷ xs) x ≡ 1 + place xs x
place_tail y xs x e = cond-true (not (eqb y x)) (1 + place xs x) 0 (ap not e)

pub place-append : (front back : List ℕ) (x : ℕ) → has front x ≡ false → place (front ++ back) x ≡ length front + place back x
place-append [] back x h = omega arith
place-append (y ∷ front) back x h =
    let parts = or_parts (eqb y x) (has front x) h in
    let rest = place-append front back x parts.1 in
    let here = place_tail y (front ++ back) x parts.0 in
    omega arith

-- a position is where an item stands that passes
pub at_position : {X : Type 0} (test : X → Bool) (xs : List X) →
    position_or_len test xs < length xs →
    (x : X) × (slice_get xs (position_or_len test xs) ≡ Some x) × (test x ≡ true)
at_position test [] l = absurd (omega arith)
at_position {X} test (x ∷ xs) l = by_test (test x) refl l (at_position test xs)
  where
    by_test : (b : Bool) → test x ≡ b → cond (not b) (1 + position_or_len test xs) 0 < suc (length xs) →
        (position_or_len test xs < length xs → (y : X)
        × (slice_get xs (position_or_len test xs) ≡ Some y) × (test y ≡ true)) →
        (y : X) × (slice_get (x ∷ xs) (cond (not b) (1 + position_or_len test xs) 0) ≡ Some y)
        × (test y ≡ true)
    by_test true e m later = (x, refl, e)
    by_test false e m later =
        let n : suc (position_or_len test xs) ≡ 1 + position_or_len test xs = omega arith in
        subst (λ (k : ℕ). (y : X) × (slice_get (x ∷ xs) k ≡ Some y) × (test y ≡ true)) n
        (later (omega arith))

-- what stands at the position that is found
pub found_at : {X : Type 0} (test : X → Bool) (xs : List X) (t : ℕ) → position test xs ≡ Some t →
    (x : X) × (slice_get xs t ≡ Some x) × (test x ≡ true)
found_at {X} test xs t h = by_test (nat_lt (position_or_len test xs) (length xs)) refl h
  where
    by_test : (b : Bool) → nat_lt (position_or_len test xs) (length xs) ≡ b →
        cond b (Some (position_or_len test xs)) None ≡ Some t →
        (x : X) × (slice_get xs t ≡ Some x) × (test x ≡ true)
    by_test true e h =
        let same : position_or_len test xs ≡ t = cc in
        subst (λ (k : ℕ). (x : X) × (slice_get xs k ≡ Some x) × (test x ≡ true)) same
        (at_position test xs (ltb-true (position_or_len test xs) (length xs) e))
    by_test false e h = absurd (cc)

-- a position is one of a list
pub position_within : {X : Type 0} (test : X → Bool) (xs : List X) (k : ℕ) → position test xs ≡ Some k → k < length xs
position_within test xs k h = by_test (nat_lt (position_or_len test xs) (length xs)) refl h
  where
    by_test : (b : Bool) → nat_lt (position_or_len test xs) (length xs) ≡ b →
        cond b (Some (position_or_len test xs)) None ≡ Some k → k < length xs
    by_test true e h =
        let l = ltb-true (position_or_len test xs) (length xs) e in
        let same : position_or_len test xs ≡ k = cc in
        omega arith
    by_test false e h = absurd (cc)

-- where none passes, the place is the end
pub none_passes : {A : Type 0} (test : A → Bool) (xs : List A) → list_any test xs ≡ false →
    position_or_len test xs ≡ length xs
none_passes test [] h = refl
none_passes test (x ∷ xs) h =
    let no = or_parts (test x) (list_any test xs) h in
    let rest = none_passes test xs no.1 in
    ap (λ (b : Bool). cond (not b) (1 + position_or_len test xs) 0) no.0 ∙ omega arith

-- the first that passes may be the last of a list
pub position_new : {A : Type 0} (test : A → Bool) (xs : List A) (y : A) → list_any test xs ≡ false →
    test y ≡ true →
    position test (xs ++ y ∷ []) ≡ Some (length xs)
position_new test xs y h e =
    let m = length-append xs (y ∷ []) in
    let here : position_or_len test (xs ++ y ∷ []) ≡ length xs =
    position_or_len_push test xs y
    ∙ (ap (λ (b : Bool). cond b (length xs + cond (test y) 0 1) (position_or_len test xs))
    (eq-eqb (position_or_len test xs) (length xs) (none_passes test xs h))
    ∙ (ap (λ (b : Bool). length xs + cond b 0 1) e ∙ omega arith)) in
    ap (λ (b : Bool). cond b (Some (position_or_len test (xs ++ y ∷ []))) None)
    (lt-ltb (position_or_len test (xs ++ y ∷ [])) (length (xs ++ y ∷ [])) (omega arith))
    ∙ ap (λ (j : ℕ). Some j) here
