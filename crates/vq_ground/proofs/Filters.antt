-- Filters of lists.
use Rattle.std.proofs.Common.{◌≡◌, ℕ, Bool, true, false, List, [], ◌∷◌, filter, refl, sym, ◌∙◌, inl, inr, subst, ap, eqb, ◌≤◌, length, arith, ◌<◌, cond}
use Rattle.std.proofs.lemmas.Bool.{false≢true, cond-true, cond-false, eq-eqb, or_left, or_right}
use Rattle.vq_ground.specs.Lists.{has, AreRising}
use Rattle.vq_ground.proofs.Lists.{has_cases, has_here, has_there}

pub filter_none : (test : ℕ → Bool) (xs : List ℕ) (x : ℕ) → filter test xs ≡ [] → has xs x ≡ true → test x ≡ false
filter_none test [] x h m = absurd (false≢true m)
filter_none test (y ∷ xs) x h m = by_test (test y) refl (filter_none test xs x)
  where
    by_test : (b : Bool) → test y ≡ b → (filter test xs ≡ [] → has xs x ≡ true → test x ≡ false) → test x ≡ false
    by_test true e f =
        let h' : y ∷ filter test xs ≡ [] = sym (cond-true (test y) (y ∷ filter test xs) (filter test xs) e) ∙ h in
        cc
    by_test false e f =
        let h' : filter test xs ≡ [] = sym (cond-false (test y) (y ∷ filter test xs) (filter test xs) e) ∙ h in
        elim (has_cases y xs x m) [ inl i ↦ subst (λ z. test z ≡ false) i e | inr i ↦ f h' i ]

pub filter-has_cases : (test : ℕ → Bool) (xs : List ℕ) (x : ℕ) → has (filter test xs) x ≡ true → (has xs x ≡ true) × (test x ≡ true)
filter-has_cases test [] x h = absurd (false≢true h)
filter-has_cases test (y ∷ xs) x h = by_test (test y) refl (filter-has_cases test xs x)
  where
    by_test : (b : Bool) → test y ≡ b → (has (filter test xs) x ≡ true → (has xs x ≡ true) × (test x ≡ true)) → (has (y ∷ xs) x ≡ true) × (test x ≡ true)
    by_test true e f =
        elim (has_cases y (filter test xs) x (sym (ap (λ zs. has zs x) (cond-true (test y) (y ∷ filter test xs) (filter test xs) e)) ∙ h)) [
          | inl i ↦ (subst (λ z. has (y ∷ xs) z ≡ true) i (has_here y xs), subst (λ z. test z ≡ true) i e)
          | inr i ↦ let r = f i in (has_there y xs x r.0, r.1)
        ]
    by_test false e f =
        let r = f (sym (ap (λ zs. has zs x) (cond-false (test y) (y ∷ filter test xs) (filter test xs) e)) ∙ h) in
        (has_there y xs x r.0, r.1)

pub filter-has : (test : ℕ → Bool) (xs : List ℕ) (x : ℕ) → has xs x ≡ true → test x ≡ true → has (filter test xs) x ≡ true
filter-has test [] x h t = h
filter-has test (y ∷ xs) x h t = by_test (test y) refl (filter-has test xs x)
  where
    by_test : (b : Bool) → test y ≡ b → (has xs x ≡ true → test x ≡ true → has (filter test xs) x ≡ true) → has (filter test (y ∷ xs)) x ≡ true
    by_test true e f =
        ap (λ zs. has zs x) (cond-true (test y) (y ∷ filter test xs) (filter test xs) e)
        ∙ elim (has_cases y xs x h) [
          | inl i ↦ or_left (eqb y x) (has (filter test xs) x) (eq-eqb y x i)
          | inr i ↦ or_right (eqb y x) (has (filter test xs) x) (f i t)
        ]
    by_test false e f =
        ap (λ zs. has zs x) (cond-false (test y) (y ∷ filter test xs) (filter test xs) e)
        ∙ f (elim (has_cases y xs x h) [ inl i ↦ absurd (false≢true (sym e ∙ ap test i ∙ t)) | inr i ↦ i ]) t

pub rising_filter : (test : ℕ → Bool) (xs : List ℕ) → AreRising xs → AreRising (filter test xs)
rising_filter test [] r = tt
rising_filter test (x ∷ xs) r = by_test (test x) refl (rising_filter test xs r.1)
  where
    by_test : (b : Bool) → test x ≡ b → AreRising (filter test xs) → AreRising (filter test (x ∷ xs))
    by_test true e f = subst AreRising (sym (cond-true (test x) (x ∷ filter test xs) (filter test xs) e)) ((λ y h. r.0 y (filter-has_cases test xs y h).0), f)
    by_test false e f = subst AreRising (sym (cond-false (test x) (x ∷ filter test xs) (filter test xs) e)) f

pub filter_empty : (test : ℕ → Bool) (xs : List ℕ) → ((x : ℕ) → has xs x ≡ true → test x ≡ false) → filter test xs ≡ []
filter_empty test [] f = refl
filter_empty test (x ∷ xs) f = cond-false (test x) (x ∷ filter test xs) (filter test xs) (f x (has_here x xs)) ∙ filter_empty test xs (λ y m. f y (has_there x xs y m))

pub filter_fewer : (f g : ℕ → Bool) (xs : List ℕ) → ((x : ℕ) → g x ≡ true → f x ≡ true) → length (filter g xs) ≤ length (filter f xs)
filter_fewer f g [] h = omega arith
filter_fewer f g (x ∷ xs) h = by_tests (g x) refl (f x) refl (filter_fewer f g xs h)
  where
    by_tests : (b : Bool) → g x ≡ b → (c : Bool) → f x ≡ c → length (filter g xs) ≤ length (filter f xs) → length (filter g (x ∷ xs)) ≤ length (filter f (x ∷ xs))
    by_tests true e true d l =
        let a : length (filter g (x ∷ xs)) ≡ length (x ∷ filter g xs) = ap length (cond-true (g x) (x ∷ filter g xs) (filter g xs) e) in
        let b : length (filter f (x ∷ xs)) ≡ length (x ∷ filter f xs) = ap length (cond-true (f x) (x ∷ filter f xs) (filter f xs) d) in
        omega arith
    by_tests true e false d l = absurd (false≢true (sym d ∙ h x e))
    by_tests false e true d l =
        let a : length (filter g (x ∷ xs)) ≡ length (filter g xs) = ap length (cond-false (g x) (x ∷ filter g xs) (filter g xs) e) in
        let b : length (filter f (x ∷ xs)) ≡ length (x ∷ filter f xs) = ap length (cond-true (f x) (x ∷ filter f xs) (filter f xs) d) in
        omega arith
    by_tests false e false d l =
        let a : length (filter g (x ∷ xs)) ≡ length (filter g xs) = ap length (cond-false (g x) (x ∷ filter g xs) (filter g xs) e) in
        let b : length (filter f (x ∷ xs)) ≡ length (filter f xs) = ap length (cond-false (f x) (x ∷ filter f xs) (filter f xs) d) in
        omega arith

pub filter_less : (f g : ℕ → Bool) (xs : List ℕ) (y : ℕ) → ((x : ℕ) → g x ≡ true → f x ≡ true) → has xs y ≡ true → f y ≡ true → g y ≡ false → length (filter g xs) < length (filter f xs)
filter_less f g [] y h m t n = absurd (false≢true m)
filter_less f g (x ∷ xs) y h m t n = elim (has_cases x xs y m) [ inl e ↦ here e | inr i ↦ by_tests (g x) refl (f x) refl (filter_less f g xs y h i t n) ]
  where
    here : x ≡ y → length (filter g (x ∷ xs)) < length (filter f (x ∷ xs))
    here e =
        let a : length (filter g (x ∷ xs)) ≡ length (filter g xs) = ap length (cond-false (g x) (x ∷ filter g xs) (filter g xs) (ap g e ∙ n)) in
        let b : length (filter f (x ∷ xs)) ≡ length (x ∷ filter f xs) = ap length (cond-true (f x) (x ∷ filter f xs) (filter f xs) (ap f e ∙ t)) in
        let l = filter_fewer f g xs h in
        omega arith

    by_tests : (b : Bool) → g x ≡ b → (c : Bool) → f x ≡ c → length (filter g xs) < length (filter f xs) → length (filter g (x ∷ xs)) < length (filter f (x ∷ xs))
    by_tests true e true d l =
        let a : length (filter g (x ∷ xs)) ≡ length (x ∷ filter g xs) = ap length (cond-true (g x) (x ∷ filter g xs) (filter g xs) e) in
        let b : length (filter f (x ∷ xs)) ≡ length (x ∷ filter f xs) = ap length (cond-true (f x) (x ∷ filter f xs) (filter f xs) d) in
        omega arith
    by_tests true e false d l = absurd (false≢true (sym d ∙ h x e))
    by_tests false e true d l =
        let a : length (filter g (x ∷ xs)) ≡ length (filter g xs) = ap length (cond-false (g x) (x ∷ filter g xs) (filter g xs) e) in
        let b : length (filter f (x ∷ xs)) ≡ length (x ∷ filter f xs) = ap length (cond-true (f x) (x ∷ filter f xs) (filter f xs) d) in
        omega arith
    by_tests false e false d l =
        let a : length (filter g (x ∷ xs)) ≡ length (filter g xs) = ap length (cond-false (g x) (x ∷ filter g xs) (filter g xs) e) in
        let b : length (filter f (x ∷ xs)) ≡ length (filter f xs) = ap length (cond-false (f x) (x ∷ filter f xs) (filter f xs) d) in
        omega arith

pub filter_all : (xs : List ℕ) → length (filter (λ x. true) xs) ≡ length xs
filter_all [] = refl
filter_all (x ∷ xs) = let r = filter_all xs in omega arith

-- tests that agree on a list leave the same of it
pub same_filter : (f g : ℕ → Bool) (xs : List ℕ) → ((x : ℕ) → has xs x ≡ true → f x ≡ g x) → filter f xs ≡ filter g xs
same_filter f g [] h = refl
same_filter f g (x ∷ xs) h =
    let here = h x (has_here x xs) in
    let rest = same_filter f g xs (λ y i. h y (has_there x xs y i)) in λ i. cond (here i) (x ∷ rest i) (rest i)
