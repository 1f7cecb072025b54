-- The first of the numbers up to one that passes a test.
use Rattle.std.proofs.Common.{ℕ, zero, suc, ◌≡◌, ◌<◌, ◌≤◌, ◌+◌, ◌⊎◌, Bool, true, false, cond, find, Option, Some, None, arith, refl, sym, ap, ◌∙◌}
use Rattle.std.specs.List.{range_with_len}
use Rattle.vq_ground.proofs.Searches.{find_least, find_none_from}

cases : (a n : ℕ) → a ≤ n → (a ≡ n) ⊎ (a < n)
cases a n l = grind arith

same_from : (q r : ℕ → Bool) (m a : ℕ) → ((k : ℕ) → a ≤ k → k < a + m → q k ≡ r k) →
    find q (range_with_len a m) ≡ find r (range_with_len a m)
same_from q r zero a h = refl
same_from q r (suc m) a h =
    ap (λ t. cond t (Some a) (find q (range_with_len (a + 1) m))) (h a (omega arith) (omega arith))
    ∙ ap (λ (o : Option ℕ). cond (r a) (Some a) o)
    (same_from q r m (a + 1) (λ k i j. h k (omega (arith, i)) (omega (arith, j))))

below_from : (q : ℕ → Bool) (m a t : ℕ) → find q (range_with_len a m) ≡ Some t → t < a + m
below_from q zero a t e = absurd (let none : None ≡ Some t = e in cc)
below_from q (suc m) a t e = by_test (q a) refl (below_from q m (a + 1) t)
  where
    by_test : (b : Bool) → q a ≡ b → (find q (range_with_len (a + 1) m) ≡ Some t → t < (a + 1) + m) → t < a + suc m
    by_test true h more =
        let found : Some a ≡ Some t = sym (ap (λ b. cond b (Some a) (find q (range_with_len (a + 1) m))) h) ∙ e in
        let same : a ≡ t = cc in
        omega (arith, same)
    by_test false h more =
        let less = more (sym (ap (λ b. cond b (Some a) (find q (range_with_len (a + 1) m))) h) ∙ e) in
        omega (arith, less)

pub found_below : (q : ℕ → Bool) (m t : ℕ) → find q (range_with_len 0 m) ≡ Some t → t < m
found_below q m t e = let less = below_from q m 0 t e in omega (arith, less)

pub first_in_range : (q : ℕ → Bool) (m n : ℕ) → n < m → q n ≡ true → ((k : ℕ) → k < n → q k ≡ false) →
    find q (range_with_len 0 m) ≡ Some n
first_in_range q m n l e h = find_least q m 0 n (omega arith) (omega (arith, l)) e (λ k i j. h k j)

pub none_in_range : (q : ℕ → Bool) (m : ℕ) → ((k : ℕ) → k < m → q k ≡ false) → find q (range_with_len 0 m) ≡ None
none_in_range q m h = find_none_from q m 0 (λ k i j. h k (omega (arith, j)))

pub same_in_range : (q r : ℕ → Bool) (m : ℕ) → ((k : ℕ) → k < m → q k ≡ r k) →
    find q (range_with_len 0 m) ≡ find r (range_with_len 0 m)
same_in_range q r m h = same_from q r m 0 (λ k i j. h k (omega (arith, j)))
