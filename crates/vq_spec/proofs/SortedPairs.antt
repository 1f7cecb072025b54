-- Lists of pairs in the order of their parts: what a search finds, and when two are one list.
use Rattle.std.proofs.Common.{◌≡◌, ◌≢◌, ℕ, zero, suc, ◌+◌, ◌<◌, ◌≤◌, Bool, true, false, ◌&&◌, cond, eqb, ltb, List, [], ◌∷◌, length, get_or, map, All, subst, ◌||◌, refl, sym, ap, ◌∙◌, ◌⊎◌, inl, inr, arith}
use Rattle.std.specs.List.{count_by, prefix_len, AllByRecursion}
use Rattle.std.specs.List.Sorted.{IsPermutation, IsSorted, IsPartitionedBy, IsPartitionPoint}
use Rattle.std.specs.List.{AllWithin}
use Rattle.std.specs.Ordering.{is_lt, ordering_then, nat_cmp}
use Rattle.std.specs.declared.cmp.Ordering.TheVariants.{Less, Equal, Greater}
use Rattle.std.specs.Cmp.{IsTotalOrder}
use Rattle.std.proofs.lemmas.Bool.{cases_eq, cases_lt, cond-true, cond-false, eq-eqb, eqb-true, lt-ltb, le-ltb, ltb-true, false≢true, or_cases, or_left, or_right, and_parts, and_from}
use Rattle.std.proofs.lemmas.Cmp.{then_total, on_total, nat_cmp_total}
use Rattle.std.proofs.lemmas.List.Sorted.{sorted_far, ranks_by, All-permutation, sum_by-IsPermutation}
use Rattle.std.proofs.lemmas.List.Elements.{recursion_from_All}
use Rattle.std.proofs.lemmas.List.{get_or_default}
use Rattle.std.proofs.lemmas.List.Sums.{sum_by-cons}
use Rattle.vq_ground.specs.Lists.{has}
use Rattle.vq_ground.proofs.Lists.{has_there, has_cases}
use Rattle.vq_spec.specs.ChainParts.{pair_cmp, is_before, place_in}

-- Pairs

pair_total : IsTotalOrder pair_cmp
pair_total = then_total (on_total (λ (p : ℕ × ℕ). p.0) nat_cmp_total)
    (on_total (λ (p : ℕ × ℕ). p.1) nat_cmp_total)

-- a pair that isn't less than another
not_less : (a b : ℕ × ℕ) → is_lt (pair_cmp a b) ≡ false →
    (b.0 < a.0) ⊎ ((a.0 ≡ b.0) × (b.1 ≤ a.1))
not_less a b h = by_first (cases_lt a.0 b.0) (cases_eq a.0 b.0)
  where
    less : (x y : ℕ) → x < y → nat_cmp x y ≡ Less
    less x y l = cond-true (ltb x y) Less (cond (eqb x y) Equal Greater) (lt-ltb x y l)

    equal : (x y : ℕ) → x ≡ y → nat_cmp x y ≡ Equal
    equal x y e = cond-false (ltb x y) Less (cond (eqb x y) Equal Greater)
        (le-ltb x y (omega arith)) ∙ cond-true (eqb x y) Equal Greater (eq-eqb x y e)

    by_second : a.0 ≡ b.0 → (a.1 < b.1) ⊎ (b.1 ≤ a.1) →
        (b.0 < a.0) ⊎ ((a.0 ≡ b.0) × (b.1 ≤ a.1))
    by_second e (inl l) = absurd (false≢true (sym h
        ∙ (ap (λ o. is_lt (ordering_then o (nat_cmp a.1 b.1))) (equal a.0 b.0 e)
        ∙ ap is_lt (less a.1 b.1 l))))
    by_second e (inr l) = inr (e, l)

    by_first : (a.0 < b.0) ⊎ (b.0 ≤ a.0) → (a.0 ≡ b.0) ⊎ (a.0 ≢ b.0) →
        (b.0 < a.0) ⊎ ((a.0 ≡ b.0) × (b.1 ≤ a.1))
    by_first (inl l) e = absurd (false≢true (sym h
        ∙ ap (λ o. is_lt (ordering_then o (nat_cmp a.1 b.1))) (less a.0 b.0 l)))
    by_first (inr l) (inl e) = by_second e (cases_lt a.1 b.1)
    by_first (inr l) (inr n) = inl (omega arith)

-- each pair of a sorted list, and those behind it
abbrev IsFar : List (ℕ × ℕ) → Type 0
IsFar xs = (i j : ℕ) (d : ℕ × ℕ) → i ≤ j → j < length xs →
    is_lt (pair_cmp (get_or xs j d) (get_or xs i d)) ≡ false

far : (xs : List (ℕ × ℕ)) → IsSorted pair_cmp xs → IsFar xs
far xs h = sorted_far (λ x y. is_lt (pair_cmp x y)) (ranks_by pair_total (λ (p : ℕ × ℕ). p)) xs h

-- Searches

pub before_cases : (p : ℕ × ℕ) (v e : ℕ) → is_before p v e ≡ true →
    (p.0 < v) ⊎ ((p.0 ≡ v) × (p.1 < e))
before_cases p v e h = elim (or_cases (ltb p.0 v) (eqb p.0 v && ltb p.1 e) h) [
  | inl l ↦ inl (ltb-true p.0 v l)
  | inr r ↦ let w = and_parts (eqb p.0 v) (ltb p.1 e) r in
      inr (eqb-true p.0 v w.0, ltb-true p.1 e w.1)
]

pub before_from : (p : ℕ × ℕ) (v e : ℕ) → (p.0 < v) ⊎ ((p.0 ≡ v) × (p.1 < e)) →
    is_before p v e ≡ true
before_from p v e (inl l) = or_left (ltb p.0 v) (eqb p.0 v && ltb p.1 e) (lt-ltb p.0 v l)
before_from p v e (inr r) = or_right (ltb p.0 v) (eqb p.0 v && ltb p.1 e)
    (and_from (eqb p.0 v) (ltb p.1 e) (eq-eqb p.0 v r.0) (lt-ltb p.1 e r.1))

pub parted_before : (xs : List (ℕ × ℕ)) (v e : ℕ) → IsSorted pair_cmp xs →
    IsPartitionedBy (λ p. is_before p v e) xs
parted_before xs v e h i j d l m t =
    before_from (get_or xs i d) v e
    (lower (get_or xs i d) (get_or xs j d)
    (not_less (get_or xs j d) (get_or xs i d) (far xs h i j d l m))
    (before_cases (get_or xs j d) v e t))
  where
    lower : (a b : ℕ × ℕ) → (a.0 < b.0) ⊎ ((b.0 ≡ a.0) × (a.1 ≤ b.1)) →
        (b.0 < v) ⊎ ((b.0 ≡ v) × (b.1 < e)) → (a.0 < v) ⊎ ((a.0 ≡ v) × (a.1 < e))
    lower a b (inl l) (inl m) = inl (omega arith)
    lower a b (inl l) (inr m) = let q = m.0 in inl (omega arith)
    lower a b (inr l) (inl m) = let q = l.0 in inl (omega arith)
    lower a b (inr l) (inr m) = let q = l.0 in let r = m.0 in let u = l.1 in let w = m.1 in
        inr (omega arith, omega arith)

-- where a search ends
pub prefix_len_is : {X : Type 0} (q : X → Bool) (xs : List X) (i : ℕ) → i ≤ length xs →
    IsPartitionPoint (λ y. q y ≡ true) (λ y. q y ≡ false) xs i → i ≡ prefix_len q xs
prefix_len_is q [] i l h = omega arith
prefix_len_is q (x ∷ xs) zero l h =
    sym (cond-false (q x) (1 + prefix_len q xs) 0 (h.1 0 x (omega arith) (omega arith)))
prefix_len_is q (x ∷ xs) (suc i) l h =
    let e = prefix_len_is q xs i (omega arith) (
      λ k d a b. h.0 (suc k) d (omega arith) (omega arith),
      λ k d a b. h.1 (suc k) d (omega arith) (omega arith),
    ) in
    (let z : suc i ≡ 1 + prefix_len q xs = omega arith in z)
    ∙ sym (cond-true (q x) (1 + prefix_len q xs) 0 (h.0 0 x (omega arith) (omega arith)))

-- a place whose pair isn't before others, and in front of which stands one that is
pub place_is : (xs : List (ℕ × ℕ)) (v e i : ℕ) (d : ℕ × ℕ) → IsSorted pair_cmp xs →
    i < length xs → is_before (get_or xs i d) v e ≡ false →
    ((k : ℕ) → suc k ≡ i → is_before (get_or xs k d) v e ≡ true) → i ≡ place_in xs v e
place_is xs v e i d h l here front =
    prefix_len_is (λ p. is_before p v e) xs i (omega arith)
    (before i front (omega arith), λ k f a b. behind k f a b (is_before (get_or xs k f) v e) refl)
  where
    parted : IsPartitionedBy (λ p. is_before p v e) xs
    parted = parted_before xs v e h

    before : (n : ℕ) → ((k : ℕ) → suc k ≡ n → is_before (get_or xs k d) v e ≡ true) →
        n ≤ length xs → AllWithin (λ p. is_before p v e ≡ true) xs 0 n
    before zero t w k f a b = absurd (omega arith)
    before (suc n) t w k f a b = parted k n f (omega arith) (omega arith)
        (subst (λ p. is_before p v e ≡ true) (get_or_default xs n d f (omega arith)) (t n refl))

    behind : (k : ℕ) (f : ℕ × ℕ) → i ≤ k → k < length xs → (b : Bool) →
        is_before (get_or xs k f) v e ≡ b → b ≡ false
    behind k f a m true t = absurd (false≢true (sym here
        ∙ subst (λ p. is_before p v e ≡ true) (get_or_default xs i f d l)
        (parted i k f a m t)))
    behind k f a m false t = refl

-- as many pairs have less than a value as are before it and the first operation
pub below_is : (xs : List (ℕ × ℕ)) (v : ℕ) →
    place_in xs v 0 ≡ prefix_len (λ p. ltb p.0 v) xs
below_is xs v = ap (λ (q : ℕ × ℕ → Bool). prefix_len q xs)
    (λ i p. least (ltb p.0 v) (eqb p.0 v) (ltb p.1 0) (le-ltb p.1 0 (omega arith)) i)
  where
    least : (a b c : Bool) → c ≡ false → (a || (b && c)) ≡ a
    least true b c h = refl
    least false true c h = h
    least false false c h = refl

-- Two lists of the same elements

abbrev pub once : Bool → ℕ
once b = cond b 1 0

abbrev pub count : ℕ → List ℕ → ℕ
count e xs = count_by (λ x. eqb x e) xs

pub count-cons : (e x : ℕ) (xs : List ℕ) → count e (x ∷ xs) ≡ once (eqb x e) + count e xs
count-cons e x xs = sum_by-cons (λ y. cond (eqb y e) 1 0) x xs

count_has : (e : ℕ) (xs : List ℕ) → 0 < count e xs → has xs e ≡ true
count_has e [] l = absurd (omega arith)
count_has e (x ∷ xs) l = by_test (eqb x e) refl (count_has e xs)
  where
    by_test : (b : Bool) → eqb x e ≡ b → (0 < count e xs → has xs e ≡ true) →
        has (x ∷ xs) e ≡ true
    by_test true t f = or_left (eqb x e) (has xs e) t
    by_test false t f =
        let c = count-cons e x xs in
        let z : once (eqb x e) ≡ 0 = ap once t in
        has_there x xs e (f (omega arith))

count_here : (x : ℕ) (xs : List ℕ) → 0 < count x (x ∷ xs)
count_here x xs =
    let c = count-cons x x xs in
    let z : once (eqb x x) ≡ 1 = ap once (eq-eqb x x refl) in
    omega arith

module _ (val : ℕ → ℕ) where
  abbrev IsUpTo : ℕ → ℕ → Type 0
  IsUpTo e f = (val e < val f) ⊎ ((val e ≡ val f) × (e ≤ f))

  -- numbers by value, and then by number
  abbrev pub AreWeak : List ℕ → Type 0
  AreWeak [] = Unit {0}
  AreWeak (e ∷ es) = ((f : ℕ) → has es f ≡ true → IsUpTo e f) × AreWeak es

  same_end : (e f : ℕ) → IsUpTo e f → IsUpTo f e → e ≡ f
  same_end e f (inl a) (inl b) = absurd (omega arith)
  same_end e f (inl a) (inr b) = let q = b.0 in absurd (omega arith)
  same_end e f (inr a) (inl b) = let q = a.0 in absurd (omega arith)
  same_end e f (inr a) (inr b) = let q = a.1 in let r = b.1 in omega arith

  -- lists in order with the same elements are one
  pub same_order : (xs ys : List ℕ) → AreWeak xs → AreWeak ys →
      ((e : ℕ) → count e xs ≡ count e ys) → xs ≡ ys
  same_order [] [] a b c = refl
  same_order [] (y ∷ ys) a b c = let h = count_here y ys in let e = c y in absurd (omega arith)
  same_order (x ∷ xs) [] a b c = let h = count_here x xs in let e = c x in absurd (omega arith)
  same_order (x ∷ xs) (y ∷ ys) a b c =
      let e = first in
      λ i. e i ∷ same_order xs ys a.1 b.1 (λ f. rest f) i
    where
      in_ys : has (y ∷ ys) x ≡ true
      in_ys = let h = count_here x xs in let e = c x in count_has x (y ∷ ys) (omega arith)

      in_xs : has (x ∷ xs) y ≡ true
      in_xs = let h = count_here y ys in let e = c y in count_has y (x ∷ xs) (omega arith)

      first : x ≡ y
      first = elim (has_cases y ys x in_ys) [
        | inl e ↦ sym e
        | inr h ↦ elim (has_cases x xs y in_xs) [
          | inl e ↦ e
          | inr g ↦ same_end x y (a.0 y g) (b.0 x h)
        ]
      ]

      rest : (f : ℕ) → count f xs ≡ count f ys
      rest f =
          let u = count-cons f x xs in
          let w = count-cons f y ys in
          let z : once (eqb x f) ≡ once (eqb y f) = ap (λ g. once (eqb g f)) first in
          let all = c f in
          omega arith

  -- pairs behind their values

  abbrev AreValued : List (ℕ × ℕ) → Type 0
  AreValued xs = AllByRecursion (λ (p : ℕ × ℕ). p.0 ≡ val p.1) xs

  has_place : (xs : List (ℕ × ℕ)) (f : ℕ) → has (map (λ p. p.1) xs) f ≡ true →
      (k : ℕ) × (k < length xs) × ((d : ℕ × ℕ) → (get_or xs k d).1 ≡ f)
      × ((d : ℕ × ℕ) → AreValued xs → (get_or xs k d).0 ≡ val f)
  has_place [] f h = absurd (false≢true h)
  has_place (x ∷ xs) f h = by_case (has_cases x.1 (map (λ p. p.1) xs) f h)
      (has_place xs f)
    where
      by_case : (x.1 ≡ f) ⊎ (has (map (λ p. p.1) xs) f ≡ true) →
          (has (map (λ p. p.1) xs) f ≡ true →
          (k : ℕ) × (k < length xs) × ((d : ℕ × ℕ) → (get_or xs k d).1 ≡ f)
          × ((d : ℕ × ℕ) → AreValued xs → (get_or xs k d).0 ≡ val f)) →
          (k : ℕ) × (k < length (x ∷ xs)) × ((d : ℕ × ℕ) → (get_or (x ∷ xs) k d).1 ≡ f)
          × ((d : ℕ × ℕ) → AreValued (x ∷ xs) → (get_or (x ∷ xs) k d).0 ≡ val f)
      by_case (inl e) g = (0, omega arith, λ d. e, λ d v. v.0 ∙ ap val e)
      by_case (inr t) g = let r = g t in
          let l = r.1 in
          (suc r.0, omega arith, λ d. r.2 d, λ d v. r.3 d v.1)

  weak_pairs : (xs : List (ℕ × ℕ)) → IsFar xs → AreValued xs → AreWeak (map (λ p. p.1) xs)
  weak_pairs [] h v = tt
  weak_pairs (x ∷ xs) h v = (
    λ f t. up f (has_place xs f t),
    weak_pairs xs (λ i j d l m. h (suc i) (suc j) d (omega arith) (omega arith)) v.1,
  )
    where
      up : (f : ℕ) → (k : ℕ) × (k < length xs) × ((d : ℕ × ℕ) → (get_or xs k d).1 ≡ f)
          × ((d : ℕ × ℕ) → AreValued xs → (get_or xs k d).0 ≡ val f) → IsUpTo x.1 f
      up f r =
          let l = r.1 in
          let n = r.2 x in
          let w = r.3 x v.1 in
          let own = v.0 in
          elim (not_less (get_or xs r.0 x) x (h 0 (suc r.0) x (omega arith) (omega arith))) [
            | inl a ↦ (let q : val x.1 < val f = omega arith in inl q)
            | inr a ↦
                (let c = a.0 in
                let d = a.1 in
                let q : val x.1 ≡ val f = omega arith in
                let u : x.1 ≤ f = omega arith in
                inr (q, u))
          ]

  valued_pairs : (xs : List (ℕ × ℕ)) → AreValued xs →
      xs ≡ map (λ e. (val e, e)) (map (λ p. p.1) xs)
  valued_pairs [] v = refl
  valued_pairs (x ∷ xs) v = λ i. (v.0 i, x.1) ∷ valued_pairs xs v.1 i

  map_valued : (es : List ℕ) → All (λ (p : ℕ × ℕ). p.0 ≡ val p.1) (map (λ e. (val e, e)) es)
  map_valued [] k d l = absurd (omega arith)
  map_valued (e ∷ es) zero d l = refl
  map_valued (e ∷ es) (suc k) d l = map_valued es k d (omega arith)

  count_pairs : (e : ℕ) (xs : List (ℕ × ℕ)) →
      count e (map (λ p. p.1) xs) ≡ count_by (λ (p : ℕ × ℕ). eqb p.1 e) xs
  count_pairs e [] = refl
  count_pairs e (x ∷ xs) =
      count-cons e x.1 (map (λ p. p.1) xs)
      ∙ (ap (λ n. once (eqb x.1 e) + n) (count_pairs e xs)
      ∙ sym (sum_by-cons (λ (p : ℕ × ℕ). cond (eqb p.1 e) 1 0) x xs))

  pub map_numbers : (es : List ℕ) → map (λ (p : ℕ × ℕ). p.1) (map (λ e. (val e, e)) es) ≡ es
  map_numbers [] = refl
  map_numbers (e ∷ es) = ap (λ fs. e ∷ fs) (map_numbers es)

  -- a sorted list of numbers behind their values is the one list of them in order
  pub sorted_is : (es fs : List ℕ) (sorted : List (ℕ × ℕ)) → AreWeak fs →
      ((e : ℕ) → count e es ≡ count e fs) → IsPermutation (map (λ e. (val e, e)) es) sorted →
      IsSorted pair_cmp sorted → sorted ≡ map (λ e. (val e, e)) fs
  sorted_is es fs sorted w c p h =
      let v = recursion_from_All (λ (p : ℕ × ℕ). p.0 ≡ val p.1) sorted
      (All-permutation (λ (p : ℕ × ℕ). p.0 ≡ val p.1) (map (λ e. (val e, e)) es) sorted p
      (map_valued es)) in
      valued_pairs sorted v
      ∙ ap (map (λ e. (val e, e))) (same_order (map (λ p. p.1) sorted) fs
      (weak_pairs sorted (far sorted h) v) w
      (λ e. count_pairs e sorted
      ∙ (sum_by-IsPermutation (λ (p : ℕ × ℕ). cond (eqb p.1 e) 1 0) (map (λ e. (val e, e)) es)
      sorted p
      ∙ (sym (count_pairs e (map (λ e. (val e, e)) es))
      ∙ (ap (count e) (map_numbers es) ∙ c e)))))
