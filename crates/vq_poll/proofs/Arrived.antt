-- Each index of a stream that was collected to its end came once.
use Rattle.std.proofs.Common.{◌≡◌, ◌≢◌, ℕ, zero, suc, ◌+◌, ◌<◌, ◌≤◌, ◌==◌, Bool, false, cond, inl, inr, List, [], ◌∷◌, length, get_or, Some, None, refl, sym, ap, ◌∙◌, subst, arith}
use native.Mathlib.Decide.{ℕ_discrete}
use Rattle.std.specs.List.{slice_get, remove, count_by, range_with_len}
use Rattle.std.proofs.lemmas.Bool.{eq-eqb, cases_lt}
use Rattle.std.proofs.lemmas.Bool.Decides.{nat_tests}
use Rattle.std.proofs.lemmas.List.Sums.{sum_by-cons, sum_by-remove}
use Rattle.vq_model.specs.Plan.{Plan}
use Rattle.vq_ground.proofs.Gets.{get_within}
use Rattle.vq_poll.specs.declared.pairs.Met.{Met}
use Rattle.vq_poll.specs.declared.pairs.Pair.{Pair}
use Rattle.vq_poll.specs.Arriving.{Comes}

abbrev is_index : ℕ → Met → Bool
is_index i m = m.index == i

abbrev is_place : ℕ → ℕ → Bool
is_place i j = j == i

abbrev one : Bool → ℕ
one b = cond b 1 0

got : (xs : List ℕ) (k x d : ℕ) → slice_get xs k ≡ Some x → get_or xs k d ≡ x
got [] k x d h = absurd (let z = h in cc)
got (y ∷ xs) zero x d h = let z = h in cc
got (y ∷ xs) (suc k) x d h = got xs k x d h

counted : (p : Plan) (ps : List Pair) (left : List ℕ) (ms : List Met) (i : ℕ) → Comes p ps left ms None → count_by (is_index i) ms ≡ count_by (is_place i) left
counted p ps left [] i h = subst (λ (xs : List ℕ). 0 ≡ count_by (is_place i) xs) (sym h) refl
counted p ps left (m ∷ ms) i (reached, (k, at, rest)) =
    let first : count_by (is_index i) (m ∷ ms) ≡ one (m.index == i) + count_by (is_index i) ms = sum_by-cons (λ (u : Met). cond (is_index i u) 1 0) m ms in
    let more : count_by (is_index i) ms ≡ count_by (is_place i) (remove left k) = counted p ps (remove left k) ms i rest in
    let taken : count_by (is_place i) (remove left k) + one (get_or left k 0 == i) ≡ count_by (is_place i) left = sum_by-remove (λ (j : ℕ). cond (is_place i j) 1 0) left k 0 (get_within left k m.index at) in
    let same : one (get_or left k 0 == i) ≡ one (m.index == i) = ap (λ (j : ℕ). one (j == i)) (got left k m.index 0 at) in
    omega arith

none_below : (n a i : ℕ) → i < a → count_by (is_place i) (range_with_len a n) ≡ 0
none_below zero a i l = refl
none_below (suc n) a i l =
    let first : count_by (is_place i) (range_with_len a (suc n)) ≡ one (a == i) + count_by (is_place i) (range_with_len (a + 1) n) = sum_by-cons (λ (j : ℕ). cond (is_place i j) 1 0) a (range_with_len (a + 1) n) in
    let other : one (a == i) ≡ 0 = ap one (differs a i l) in
    let more = none_below n (a + 1) i (omega arith) in
    omega arith
  where
    differs : (a i : ℕ) → i < a → (a == i) ≡ false
    differs a i l = grind (arith, nat_tests)

one_within : (n a i : ℕ) → a ≤ i → i < a + n → count_by (is_place i) (range_with_len a n) ≡ 1
one_within zero a i l m = absurd (omega arith)
one_within (suc n) a i l m = elim (ℕ_discrete a i) [
  | yes same ↦
      let first : count_by (is_place i) (range_with_len a (suc n)) ≡ one (a == i) + count_by (is_place i) (range_with_len (a + 1) n) = sum_by-cons (λ (j : ℕ). cond (is_place i j) 1 0) a (range_with_len (a + 1) n) in
      let here : one (a == i) ≡ 1 = ap one (eq-eqb a i same) in
      let more = none_below n (a + 1) i (omega (arith, same)) in
      omega arith
  | no other ↦
      let first : count_by (is_place i) (range_with_len a (suc n)) ≡ one (a == i) + count_by (is_place i) (range_with_len (a + 1) n) = sum_by-cons (λ (j : ℕ). cond (is_place i j) 1 0) a (range_with_len (a + 1) n) in
      let above : a < i = above_of a i l other in
      let there : one (a == i) ≡ 0 = ap one (differs a i above) in
      let more = one_within n (a + 1) i (omega arith) (omega arith) in
      omega arith
]
  where
    differs : (a i : ℕ) → a < i → (a == i) ≡ false
    differs a i l = grind (arith, nat_tests)

    above_of : (a i : ℕ) → a ≤ i → a ≢ i → a < i
    above_of a i l n = elim (cases_lt a i) [ inl less ↦ less | inr isnt ↦ absurd (n (omega arith)) ]

pub once : (p : Plan) (ps : List Pair) (ms : List Met) → Comes p ps (range_with_len 0 (length ps)) ms None → (i : ℕ) → i < length ps → count_by (is_index i) ms ≡ 1
once p ps ms h i l = counted p ps (range_with_len 0 (length ps)) ms i h ∙ one_within (length ps) 0 i (omega arith) (omega arith)
