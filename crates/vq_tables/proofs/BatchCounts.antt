-- Batches counted job by job.
use Rattle.std.proofs.Common.{◌≡◌, ℕ, zero, suc, ◌+◌, ◌<◌, ◌≤◌, Bool, List, [], ◌∷◌, ◌++◌, length, get_or, sym, ap, ◌∙◌, inl, inr, arith}
use Rattle.std.specs.Prelude.{count_by}
use Rattle.std.specs.List.{range_with_len}
use Rattle.std.proofs.lemmas.Bool.{cases_eq}
use Rattle.std.proofs.lemmas.List.{get_or_push, get_or_append_left}
use Rattle.std.proofs.lemmas.List.FromFn.{length-range_with_len}
use Rattle.std.proofs.lemmas.List.Sums.{count_by-le-length}
use Rattle.vq_model.specs.Plan.{Plan, is_batch}
use Rattle.vq_history_laws.proofs.Cited.{count_cons}
use Rattle.vq_history_laws.specs.Measure.{one}
use Rattle.vq_tables.specs.Tables.{batches_before}

count_push : (test : ℕ → Bool) (a n : ℕ) →
    count_by test (range_with_len a (suc n)) ≡ count_by test (range_with_len a n) + one (test (a + n))
count_push test a zero =
    let e : a ≡ a + 0 = omega arith in
    let c = count_cons test a [] in
    let o : one (test a) ≡ one (test (a + 0)) = ap (λ (k : ℕ). one (test k)) e in
    omega arith
count_push test a (suc n) =
    let r = count_push test (a + 1) n in
    let x = count_cons test a (range_with_len (a + 1) (suc n)) in
    let y = count_cons test a (range_with_len (a + 1) n) in
    let e : (a + 1) + n ≡ a + suc n = omega arith in
    let o : one (test ((a + 1) + n)) ≡ one (test (a + suc n)) = ap (λ (k : ℕ). one (test k)) e in
    omega arith

module _ (p : Plan) where
  pub batches_more : (j : ℕ) → batches_before p (suc j) ≡ batches_before p j + one (is_batch p j)
  batches_more j = count_push (is_batch p) 0 j ∙ (let e : 0 + j ≡ j = omega arith in
      ap (λ (k : ℕ). batches_before p j + one (is_batch p k)) e)

  pub batches_most : (j : ℕ) → batches_before p j ≤ j
  batches_most j =
      let most = count_by-le-length (is_batch p) (range_with_len 0 j) in
      let size = length-range_with_len 0 j in
      omega arith

-- the table of the first jobs, one job longer
pub earlier_push : (p : Plan) (xs : List ℕ) (j : ℕ) → length xs ≡ j → ((k : ℕ) → k < j →
    get_or xs k 0 ≡ batches_before p k) → (k : ℕ) → k < j + 1 →
    get_or (xs ++ batches_before p j ∷ []) k 0 ≡ batches_before p k
earlier_push p xs j size each k l = elim (cases_eq k j) [
  | inl s ↦
      let at = get_or_push xs (batches_before p j) 0 j size in
      ap (λ (i : ℕ). get_or (xs ++ batches_before p j ∷ []) i 0) s ∙ (at ∙ ap (batches_before p) (sym s))
  | inr d ↦
      let m : k < j = grind arith in
      get_or_append_left xs (batches_before p j ∷ []) 0 k (omega arith) ∙ each k m
]

-- one job more
pub count_more : (p : Plan) (j n m : ℕ) → n ≡ batches_before p j → m ≡ one (is_batch p j) →
    n + m ≡ batches_before p (j + 1)
count_more p j n m a b =
    let e : j + 1 ≡ suc j = omega arith in
    let c = batches_more p j in
    let s = ap (batches_before p) e in
    omega arith

pub count_fits : (p : Plan) (j n m : ℕ) → n ≡ batches_before p j → m ≡ one (is_batch p j) → n + m ≤ j + 1
count_fits p j n m a b =
    let s = count_more p j n m a b in
    let most = batches_most p (j + 1) in
    omega arith
