-- A test that becomes true at one more place counts one more.
use Rattle.std.proofs.Common.{◌≡◌, ℕ, zero, suc, ◌+◌, ◌<◌, ◌≤◌, Bool, true, false, Option, Some, None, is_some, refl, ap, ◌∙◌, inl, inr, arith}
use Rattle.std.specs.List.{count_by, range_with_len}
use Rattle.std.proofs.lemmas.List.FromFn.{length-range_with_len}
use Rattle.std.proofs.lemmas.List.Sums.{sum_by-cons, count_by-le-length}
use Rattle.std.proofs.lemmas.Bool.{cases_eq}
use Rattle.vq_model.specs.Machine.{put}
use Rattle.vq_model.proofs.Puts.{put_here, put_there}
use Rattle.vq_history_laws.specs.Measure.{one}

module _ (f : ℕ → Bool) (g : ℕ → Bool) (k : ℕ) (old : f k ≡ false) (new : g k ≡ true) (kept : (i : ℕ) → (i ≡ k →
    ⊥) → g i ≡ f i) where
  behind : (a n : ℕ) → k < a → count_by g (range_with_len a n) ≡ count_by f (range_with_len a n)
  behind a zero l = refl
  behind a (suc n) l =
      let rest : count_by g (range_with_len (a + 1) n) ≡ count_by f (range_with_len (a + 1) n) = behind (a + 1) n
      (omega arith) in
      let here : one (g a) ≡ one (f a) = ap one (kept a (λ e. omega arith)) in
      let x = sum_by-cons (λ i. one (g i)) a (range_with_len (a + 1) n) in
      let y = sum_by-cons (λ i. one (f i)) a (range_with_len (a + 1) n) in
      omega arith

  pub count_raised : (a n : ℕ) → a ≤ k → k < a + n →
      count_by g (range_with_len a n) ≡ count_by f (range_with_len a n) + 1
  count_raised a zero le lt = absurd (omega arith)
  count_raised a (suc n) le lt =
      let x = sum_by-cons (λ i. one (g i)) a (range_with_len (a + 1) n) in
      let y = sum_by-cons (λ i. one (f i)) a (range_with_len (a + 1) n) in
      elim (cases_eq a k) [
        | inl e ↦
            let rest : count_by g (range_with_len (a + 1) n) ≡ count_by f (range_with_len (a + 1) n) = behind (a + 1)
            n (omega arith) in
            let up : one (g a) ≡ 1 = ap one (ap g e ∙ new) in
            let down : one (f a) ≡ 0 = ap one (ap f e ∙ old) in
            omega arith
        | inr n' ↦
            let rest : count_by g (range_with_len (a + 1) n) ≡ count_by f (range_with_len (a + 1) n) + 1 =
            count_raised (a + 1) n (omega arith) (omega arith) in
            let here : one (g a) ≡ one (f a) = ap one (kept a n') in
            omega arith
      ]

pub put_counts : (f : ℕ → Bool) (k n : ℕ) → k < n → f k ≡ false →
    count_by (put f k true) (range_with_len 0 n) ≡ count_by f (range_with_len 0 n) + 1
put_counts f k n l old = count_raised f (put f k true) k old (put_here f k true) (λ i d. put_there f k true i d) 0 n
    (omega arith) (omega arith)

pub put_some_counts : {A : Type 0} (f : ℕ → Option A) (k n : ℕ) (x : A) → k < n → f k ≡ None →
    count_by (λ i. is_some (put f k (Some x) i)) (range_with_len 0 n) ≡ count_by (λ i. is_some (f i)) (range_with_len
    0 n) + 1
put_some_counts f k n x l old = count_raised (λ i. is_some (f i)) (λ i. is_some (put f k (Some x) i)) k (ap is_some
    old) (ap is_some (put_here f k (Some x))) (λ i d. ap is_some (put_there f k (Some x) i d)) 0 n (omega arith)
    (omega arith)

-- where a test fails at a place, fewer than all pass it
pub count_below : (f : ℕ → Bool) (k n : ℕ) → k < n → f k ≡ false → count_by f (range_with_len 0 n) < n
count_below f k n l old =
    let up = put_counts f k n l old in
    let most = count_by-le-length (put f k true) (range_with_len 0 n) in
    let size = length-range_with_len 0 n in
    omega arith
