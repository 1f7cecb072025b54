-- What a search through a list finds.
use Rattle.std.proofs.Common.{◌≡◌, ℕ, Bool, true, false, List, [], ◌∷◌, find, Some, refl, sym, ◌∙◌, subst, ◌++◌, ap, inl, inr, None, Option, ◌==◌, ◌+◌, ◌<◌, ◌≤◌, zero, suc, arith, if◌then◌else◌}
use Rattle.std.proofs.lemmas.Bool.{cond-true, cond-false, false≢true, eq-eqb, eqb-true, cases_eq}
use Rattle.vq_ground.specs.Lists.{has}
use Rattle.vq_ground.proofs.Lists.{has_cases, has_here, has_there}
use Rattle.std.specs.List.{slice_get, position_or_len, range_with_len}
use Rattle.std.proofs.lemmas.List.Folds.{find_at}

pub find_passes : (test : ℕ → Bool) (xs : List ℕ) (r : ℕ) → find test xs ≡ Some r → test r ≡ true
find_passes test [] r h = cc
find_passes test (y ∷ xs) r h = by_test (test y) refl (find_passes test xs r)
  where
    by_test : (b : Bool) → test y ≡ b → (find test xs ≡ Some r → test r ≡ true) → test r ≡ true
    by_test true e f =
        let h' : Some y ≡ Some r = sym (cond-true (test y) (Some y) (find test xs) e) ∙ h in
        let i : y ≡ r = cc in
        subst (λ z. test z ≡ true) i e
    by_test false e f = f (sym (cond-false (test y) (Some y) (find test xs) e) ∙ h)

-- what a search finds, and that what stands in front of it fails the test
pub record Finds (test : ℕ → Bool) (xs : List ℕ) (r : ℕ) : Type 0 where
  pub front : List ℕ
  pub back : List ℕ
  pub whole : xs ≡ front ++ r ∷ back
  pub fail : (x : ℕ) → has front x ≡ true → test x ≡ false

pub find_splits : (test : ℕ → Bool) (xs : List ℕ) (r : ℕ) → find test xs ≡ Some r → Finds test xs r
find_splits test [] r h = cc
find_splits test (y ∷ xs) r h = by_test (test y) refl (find_splits test xs r)
  where
    by_test : (b : Bool) → test y ≡ b → (find test xs ≡ Some r → Finds test xs r) → Finds test (y ∷ xs) r
    by_test true e f =
        let h' : Some y ≡ Some r = sym (cond-true (test y) (Some y) (find test xs) e) ∙ h in
        let i : y ≡ r = cc in
        record { front = []; back = xs; whole = ap (λ z. z ∷ xs) i; fail = λ x m. absurd (false≢true m) }
    by_test false e f =
        let rest = f (sym (cond-false (test y) (Some y) (find test xs) e) ∙ h) in
        record {
          front = y ∷ rest.front;
          back = rest.back;
          whole = ap (λ zs. y ∷ zs) rest.whole;
          fail = λ x m. elim (has_cases y rest.front x m) [ inl i ↦ subst (λ z. test z ≡ false) i e | inr i ↦ rest.fail x i ];
        }

pub find_member : (test : ℕ → Bool) (xs : List ℕ) (r : ℕ) → find test xs ≡ Some r → has xs r ≡ true
find_member test [] r h = cc
find_member test (y ∷ xs) r h = by_test (test y) refl (find_member test xs r)
  where
    by_test : (b : Bool) → test y ≡ b → (find test xs ≡ Some r → has xs r ≡ true) → has (y ∷ xs) r ≡ true
    by_test true e f =
        let h' : Some y ≡ Some r = sym (cond-true (test y) (Some y) (find test xs) e) ∙ h in
        let i : y ≡ r = cc in
        subst (λ z. has (y ∷ xs) z ≡ true) i (has_here y xs)
    by_test false e f = has_there y xs r (f (sym (cond-false (test y) (Some y) (find test xs) e) ∙ h))

pub find_fails : (test : ℕ → Bool) (xs : List ℕ) (x : ℕ) → find test xs ≡ None → has xs x ≡ true → test x ≡ false
find_fails test [] x h m = absurd (false≢true m)
find_fails test (y ∷ xs) x h m = by_test (test y) refl (find_fails test xs x)
  where
    by_test : (b : Bool) → test y ≡ b → (find test xs ≡ None → has xs x ≡ true → test x ≡ false) → test x ≡ false
    by_test true e f =
        let h' : Some y ≡ None = sym (cond-true (test y) (Some y) (find test xs) e) ∙ h in
        cc
    by_test false e f =
        let h' : find test xs ≡ None = sym (cond-false (test y) (Some y) (find test xs) e) ∙ h in
        elim (has_cases y xs x m) [ inl i ↦ subst (λ z. test z ≡ false) i e | inr i ↦ f h' i ]

-- a number of a list stands at its place
pub at_place : (xs : List ℕ) (x : ℕ) → has xs x ≡ true → slice_get xs (position_or_len (λ k. k == x) xs) ≡ Some x
at_place xs x h = sym (find_at (λ k. k == x) xs) ∙ by_found (find (λ k. k == x) xs) refl
  where
    by_found : (o : Option ℕ) → find (λ k. k == x) xs ≡ o → find (λ k. k == x) xs ≡ Some x
    by_found None f = absurd (false≢true (sym (find_fails (λ k. k == x) xs x f h) ∙ eq-eqb x x refl))
    by_found (Some r) f = f ∙ ap Some (eqb-true r x (find_passes (λ k. k == x) xs r f))

pub find_least : (test : ℕ → Bool) (n a j : ℕ) → a ≤ j → j < a + n → test j ≡ true → ((i : ℕ) → a ≤ i → i < j → test i ≡ false) → find test (range_with_len a n) ≡ Some j
find_least test zero a j l h t f = absurd (omega arith)
find_least test (suc n) a j l h t f = elim (cases_eq a j) [
  | inl e ↦ cond-true (test a) (Some a) (find test (range_with_len (a + 1) n)) (subst (λ z. test z ≡ true) (sym e) t) ∙ ap Some e
  | inr e ↦ cond-false (test a) (Some a) (find test (range_with_len (a + 1) n)) (f a (omega arith) (grind arith)) ∙ find_least test n (a + 1) j (grind arith) (omega arith) t (λ i l h. f i (omega arith) h)
]

pub find_none_from : (test : ℕ → Bool) (n a : ℕ) → ((i : ℕ) → a ≤ i → i < a + n → test i ≡ false) → find test (range_with_len a n) ≡ None
find_none_from test zero a f = refl
find_none_from test (suc n) a f =
    cond-false (test a) (Some a) (find test (range_with_len (a + 1) n)) (f a (omega arith) (omega arith)) ∙ find_none_from test n (a + 1) (λ i l h. f i (omega arith) (omega arith))

pub find_none : (test : ℕ → Bool) (xs : List ℕ) → ((x : ℕ) → has xs x ≡ true → test x ≡ false) → find test xs ≡ None
find_none test [] f = refl
find_none test (x ∷ xs) f =
    cond-false (test x) (Some x) (find test xs) (f x (has_here x xs)) ∙
    find_none test xs (λ y m. f y (has_there x xs y m))

-- what is found stands in the list, and passes
pub found_in : (f : ℕ → Bool) (xs : List ℕ) (x : ℕ) → find f xs ≡ Some x → (has xs x ≡ true) × (f x ≡ true)
found_in f [] x h = absurd (let z = h in cc)
found_in f (y ∷ ys) x h = by_test (f y) refl h (found_in f ys x)
  where
    by_test : (b : Bool) → f y ≡ b → (if b then Some y else find f ys) ≡ Some x →
        (find f ys ≡ Some x → (has ys x ≡ true) × (f x ≡ true)) → (has (y ∷ ys) x ≡ true) × (f x ≡ true)
    by_test true t e rest =
        let same : y ≡ x = let z = e in cc in
        (subst (λ (z : ℕ). has (y ∷ ys) z ≡ true) same (has_here y ys), subst (λ (z : ℕ). f z ≡ true) same t)
    by_test false t e rest = let r = rest e in (has_there y ys x r.0, r.1)

-- the first number of a list that passes a test, with its place
pub record IsFirst (f : ℕ → Bool) (xs : List ℕ) (x : ℕ) : Type 0 where
  pub place : ℕ
  pub is : slice_get xs place ≡ Some x
  pub passes : f x ≡ true
  pub none : (i y : ℕ) → slice_get xs i ≡ Some y → f y ≡ true → place ≤ i

pub first_of : (f : ℕ → Bool) (xs : List ℕ) (x : ℕ) → find f xs ≡ Some x → IsFirst f xs x
first_of f [] x h = absurd (let z = h in cc)
first_of f (y ∷ ys) x h = by_test (f y) refl h (first_of f ys x)
  where
    by_test : (b : Bool) → f y ≡ b → (if b then Some y else find f ys) ≡ Some x → (find f ys ≡ Some x → IsFirst f ys x) → IsFirst f (y ∷ ys) x
    by_test true t e rest = let same : y ≡ x = let z = e in cc in record { place = 0; is = ap Some same; passes = subst (λ (z : ℕ). f z ≡ true) same t; none = λ i z at p. omega arith }
    by_test false t e rest =
        let r = rest e in
        record { place = suc r.place; is = r.is; passes = r.passes; none = none r }
      where
        none : (r : IsFirst f ys x) (i z : ℕ) → slice_get (y ∷ ys) i ≡ Some z → f z ≡ true → suc r.place ≤ i
        none r zero z at p = let same : y ≡ z = let w = at in cc in absurd (false≢true (sym t ∙ (ap f same ∙ p)))
        none r (suc i) z at p = let l = r.none i z at p in omega arith
