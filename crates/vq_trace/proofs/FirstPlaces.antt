-- The place of a number among rising ones, as a search by halves finds it.
use Rattle.std.proofs.Common.{ℕ, ◌≡◌, ◌<◌, ◌≤◌, ◌⊎◌, ◌+◌, inl, inr, false, List, [], ◌∷◌, ◌++◌, length, get_or, Some, None, arith, sym, ap, find, map, ◌∙◌}
use Rattle.std.specs.Prelude.{◌==◌, Ok, Err}
use Rattle.std.specs.List.{range_with_len}
use Rattle.std.specs.List.Sorted.{IsBinarySearchResult}
use Rattle.std.specs.Ordering.{nat_cmp}
use Rattle.std.proofs.lemmas.List.Sorted.{searched}
use Rattle.std.proofs.lemmas.List.FromFn.{get_or-map-range_with_len, length-map-range_with_len, map-range_with_len_more}
use Rattle.std.proofs.lemmas.Bool.Decides.{nat_tests}
use Rattle.vq_trace.proofs.FirstInRange.{first_in_range, none_in_range, same_in_range}

-- numbers rise by their places
abbrev pub Rise : List ℕ → Type 0
Rise xs = (i j : ℕ) → i < j → j < length xs → get_or xs i 0 < get_or xs j 0

rise_eq : (xs : List ℕ) → Rise xs → (i j : ℕ) → i ≤ j → j < length xs → get_or xs i 0 ≤ get_or xs j 0
rise_eq xs r i j l h = elim (cases i j l) [
  | inl e ↦ let same = ap (λ k. get_or xs k 0) e in omega (arith, same)
  | inr m ↦ let less = r i j m h in omega (arith, less)
]
  where
    cases : (i j : ℕ) → i ≤ j → (i ≡ j) ⊎ (i < j)
    cases i j l = grind arith

-- a place that was found
pub found_place : (xs : List ℕ) (x i : ℕ) → Rise xs → IsBinarySearchResult (λ y. nat_cmp y x) xs (Ok i) →
    Some i ≡ find (λ k. get_or xs k 0 == x) (range_with_len 0 (length xs))
found_place xs x i r h =
    let s = searched xs x (Ok i) h (rise_eq xs r) in
    let is = s.1 in
    sym (first_in_range (λ k. get_or xs k 0 == x) (length xs) i s.0 (grind (arith, nat_tests))
    (λ k m. let less = r k i m s.0 in grind (arith, nat_tests)))

-- none was found
pub found_nowhere : (xs : List ℕ) (x i : ℕ) → Rise xs → IsBinarySearchResult (λ y. nat_cmp y x) xs (Err i) →
    None ≡ find (λ k. get_or xs k 0 == x) (range_with_len 0 (length xs))
found_nowhere xs x i r h =
    let s = searched xs x (Err i) h (rise_eq xs r) in
    sym (none_in_range (λ k. get_or xs k 0 == x) (length xs) (λ k l. by_side k l (split k i) s))
  where
    split : (k i : ℕ) → (k < i) ⊎ (i ≤ k)
    split k i = grind arith

    by_side : (k : ℕ) → k < length xs → (k < i) ⊎ (i ≤ k) →
        ((i ≤ length xs) × ((k : ℕ) → k < i → get_or xs k 0 < x) × ((k : ℕ) → i ≤ k → k < length xs → x < get_or xs k 0)) →
        (get_or xs k 0 == x) ≡ false
    by_side k l (inl m) s = let less = s.1 k m in grind (arith, nat_tests)
    by_side k l (inr m) s = let more = s.2 k m l in grind (arith, nat_tests)

-- A table of the values of a function

pub table_more : (f : ℕ → ℕ) (n x : ℕ) (table : List ℕ) → table ≡ map f (range_with_len 0 n) → x ≡ f n →
    table ++ x ∷ [] ≡ map f (range_with_len 0 (n + 1))
table_more f n x table is same =
    (λ i. is i ++ same i ∷ []) ∙ sym (map-range_with_len_more f 0 n n (omega arith))

module _ (f : ℕ → ℕ) (n : ℕ) (table : List ℕ) (is : table ≡ map f (range_with_len 0 n)) where
  table_len : length table ≡ n
  table_len = ap (λ (xs : List ℕ). length xs) is ∙ length-map-range_with_len f 0 n

  table_at : (k : ℕ) → k < n → get_or table k 0 ≡ f k
  table_at k l = ap (λ (xs : List ℕ). get_or xs k 0) is ∙ get_or-map-range_with_len f 0 n k k 0 l (omega arith)

  pub table_rises : ((i j : ℕ) → i < j → j < n → f i < f j) → Rise table
  table_rises r i j l h =
      let long = table_len in
      let first = table_at i (omega (arith, long, l, h)) in
      let second = table_at j (omega (arith, long, h)) in
      let less = r i j l (omega (arith, long, h)) in
      omega (arith, first, second, less)

  pub table_few : (m : ℕ) → n < m → length table < m
  table_few m l = let long = table_len in omega (arith, long, l)

  pub table_finds : (x : ℕ) → find (λ k. get_or table k 0 == x) (range_with_len 0 (length table))
      ≡ find (λ k. f k == x) (range_with_len 0 n)
  table_finds x =
      ap (λ (m : ℕ). find (λ k. get_or table k 0 == x) (range_with_len 0 m)) table_len
      ∙ same_in_range (λ k. get_or table k 0 == x) (λ k. f k == x) n (λ k l. ap (λ y. y == x) (table_at k l))
