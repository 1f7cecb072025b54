-- Lists by their places: pushes, ranges, writes at a place.
use Rattle.std.proofs.Common.{◌≡◌, ◌≢◌, ℕ, zero, suc, ◌+◌, ◌<◌, ◌≤◌, Bool, true, false, cond, List, [], ◌∷◌, ◌++◌, length, get_or, map, filter, take, Some, None, refl, sym, ap, ◌∙◌, ◌⊎◌, inl, inr, arith, get_or-set_other, get_or-set_same, zero-add}
use Rattle.std.proofs.Math.ListN.{set}
use Rattle.std.specs.List.{count_by, slice_get, range_with_len, enumerate_from, AllByRecursion}
use Rattle.std.proofs.lemmas.Bool.{cases_eq, cond-true, cond-false}
use Rattle.std.proofs.lemmas.List.{length-set, same_lists}
use Rattle.std.proofs.lemmas.List.FromFn.{length-map-range_with_len, get_or-map-range_with_len}
use Rattle.std.proofs.lemmas.List.Sums.{fold-append, sum_by-append, sum_by-cons}

module _ {X : Type 0} where
  -- one element more
  pub take_push : (xs : List X) (i : ℕ) (x : X) → slice_get xs i ≡ Some x →
      take (i + 1) xs ≡ take i xs ++ x ∷ []
  take_push xs i x e = ap (λ k. take k xs) (let n : i + 1 ≡ suc i = omega arith in n) ∙ push xs i e
    where
      push : (xs : List X) (i : ℕ) → slice_get xs i ≡ Some x → take (suc i) xs ≡ take i xs ++ x ∷ []
      push [] i e = absurd (let c : None ≡ Some x = e in cc)
      push (y ∷ xs) zero e = let same : y ≡ x = cc in ap (λ z. z ∷ []) same
      push (y ∷ xs) (suc i) e = ap (λ zs. y ∷ zs) (push xs i e)

  pub take_all : (xs : List X) → take (length xs) xs ≡ xs
  take_all [] = refl
  take_all (x ∷ xs) = ap (λ ys. x ∷ ys) (take_all xs)

  pub enumerate-append : (a : ℕ) (xs ys : List X) →
      enumerate_from a (xs ++ ys) ≡ enumerate_from a xs ++ enumerate_from (a + length xs) ys
  enumerate-append a [] ys = ap (λ n. enumerate_from n ys) (let e : a ≡ a + 0 = omega arith in e)
  enumerate-append a (x ∷ xs) ys =
      ap (λ zs. (a, x) ∷ zs) (enumerate-append (a + 1) xs ys
      ∙ ap (λ n. enumerate_from (a + 1) xs ++ enumerate_from n ys)
      (let e : (a + 1) + length xs ≡ a + suc (length xs) = omega arith in e))

  -- tests

  pub count-push : (p : X → Bool) (xs : List X) (x : X) →
      count_by p (xs ++ x ∷ []) ≡ count_by p xs + cond (p x) 1 0
  count-push p xs x = fold-append (λ a y. a + cond (p y) 1 0) 0 xs (x ∷ [])

  pub count-append : (p : X → Bool) (xs ys : List X) →
      count_by p (xs ++ ys) ≡ count_by p xs + count_by p ys
  count-append p xs ys = sum_by-append (λ x. cond (p x) 1 0) xs ys

  pub count-none : (p : X → Bool) (xs : List X) → AllByRecursion (λ x. p x ≡ false) xs →
      count_by p xs ≡ 0
  count-none p [] h = refl
  count-none p (x ∷ xs) h =
      sum_by-cons (λ x. cond (p x) 1 0) x xs ∙ λ i. cond (h.0 i) 1 0 + count-none p xs h.1 i

  pub count-same : (p q : X → Bool) (xs : List X) → AllByRecursion (λ x. p x ≡ q x) xs →
      count_by p xs ≡ count_by q xs
  count-same p q [] h = refl
  count-same p q (x ∷ xs) h =
      sum_by-cons (λ x. cond (p x) 1 0) x xs
      ∙ ((λ i. cond (h.0 i) 1 0 + count-same p q xs h.1 i)
      ∙ sym (sum_by-cons (λ x. cond (q x) 1 0) x xs))

  -- what holds of each element

  pub each-append : (P : X → Type 0) (xs ys : List X) → AllByRecursion P xs → AllByRecursion P ys →
      AllByRecursion P (xs ++ ys)
  each-append P [] ys a b = b
  each-append P (x ∷ xs) ys a b = (a.0, each-append P xs ys a.1 b)

  pub each-weaken : (P Q : X → Type 0) → ((x : X) → P x → Q x) → (xs : List X) →
      AllByRecursion P xs → AllByRecursion Q xs
  each-weaken P Q f [] a = tt
  each-weaken P Q f (x ∷ xs) a = (f x a.0, each-weaken P Q f xs a.1)

  -- functions on a range

  -- a function that differs at one place
  pub map_range-set : (f g : ℕ → X) (n k : ℕ) (v : X) → g k ≡ v →
      ((q : ℕ) → q ≢ k → g q ≡ f q) →
      map g (range_with_len 0 n) ≡ set (map f (range_with_len 0 n)) k v
  map_range-set f g n k v here there =
      same_lists _ _ (length-map-range_with_len g 0 n
      ∙ (sym (length-map-range_with_len f 0 n) ∙ sym (length-set (map f (range_with_len 0 n)) k v)))
      (λ i d l. at i d (let e = length-map-range_with_len g 0 n in omega arith) (cases_eq i k))
    where
      at : (i : ℕ) (d : X) → i < n → (i ≡ k) ⊎ (i ≢ k) →
          get_or (map g (range_with_len 0 n)) i d
          ≡ get_or (set (map f (range_with_len 0 n)) k v) i d
      at i d l (inl e) =
          let m : k < length (map f (range_with_len 0 n)) = omega
          (arith, length-map-range_with_len f 0 n) in
          get_or-map-range_with_len g 0 n i i d l (zero-add i)
          ∙ (ap g e
          ∙ (here ∙ (sym (get_or-set_same (map f (range_with_len 0 n)) k v d m)
          ∙ ap (λ j. get_or (set (map f (range_with_len 0 n)) k v) j d) (sym e))))
      at i d l (inr ne) =
          get_or-map-range_with_len g 0 n i i d l (zero-add i)
          ∙ (there i ne
          ∙ (sym (get_or-map-range_with_len f 0 n i i d l (zero-add i))
          ∙ sym (get_or-set_other (map f (range_with_len 0 n)) k i v d ne)))

  pub get_map_range : (f : ℕ → X) (n k : ℕ) (xs : List X) (d : X) →
      xs ≡ map f (range_with_len 0 n) → k < n → get_or xs k d ≡ f k
  get_map_range f n k xs d e l =
      ap (λ ys. get_or ys k d) e ∙ get_or-map-range_with_len f 0 n k k d l (zero-add k)

-- Ranges

-- what a test gives on a range
pub filter_range-all : (test : ℕ → Bool) (a n : ℕ) →
    ((e : ℕ) → a ≤ e → e < a + n → test e ≡ true) →
    filter test (range_with_len a n) ≡ range_with_len a n
filter_range-all test a zero f = refl
filter_range-all test a (suc n) f =
    cond-true (test a) (a ∷ filter test (range_with_len (a + 1) n))
    (filter test (range_with_len (a + 1) n)) (f a (omega arith) (omega arith))
    ∙ ap (λ xs. a ∷ xs) (filter_range-all test (a + 1) n
    (λ e l h. f e (omega arith) (omega arith)))

pub filter_range-none : (test : ℕ → Bool) (a n : ℕ) →
    ((e : ℕ) → a ≤ e → e < a + n → test e ≡ false) → filter test (range_with_len a n) ≡ []
filter_range-none test a zero f = refl
filter_range-none test a (suc n) f =
    cond-false (test a) (a ∷ filter test (range_with_len (a + 1) n))
    (filter test (range_with_len (a + 1) n)) (f a (omega arith) (omega arith))
    ∙ filter_range-none test (a + 1) n (λ e l h. f e (omega arith) (omega arith))
