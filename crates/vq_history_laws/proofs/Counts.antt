-- Counting, and the numbers of a range.
use Rattle.std.proofs.Common.{◌≡◌, ◌+◌, ◌<◌, ◌||◌, ◌∙◌, ℕ, Bool, true, false, List, [], ◌∷◌, refl, ap, arith}
use Rattle.std.specs.List.{count_by, list_any}
use Rattle.std.proofs.lemmas.List.Sums.{sum_by-cons}
use Rattle.vq_history_laws.specs.Measure.{one}

pub count_cons : {A : Type 0} (test : A → Bool) (x : A) (xs : List A) →
    count_by test (x ∷ xs) ≡ one (test x) + count_by test xs
count_cons test x xs = sum_by-cons (λ y. one (test y)) x xs

pub counted_any : {A : Type 0} (test : A → Bool) (xs : List A) → 0 < count_by test xs → list_any test xs ≡ true
counted_any test [] l = absurd (omega arith)
counted_any test (x ∷ xs) l = by_test (test x) refl (counted_any test xs)
  where
    by_test : (b : Bool) → test x ≡ b → (0 < count_by test xs → list_any test xs ≡ true) →
        (test x || list_any test xs) ≡ true
    by_test true e f = ap (λ b. b || list_any test xs) e
    by_test false e f =
        let u = count_cons test x xs in
        let v : one (test x) ≡ 0 = ap one e in
        ap (λ b. b || list_any test xs) e ∙ f (omega arith)

pub none_counted : {A : Type 0} (test : A → Bool) (xs : List A) → count_by test xs ≡ 0 → list_any test xs ≡ false
none_counted test [] l = refl
none_counted test (x ∷ xs) l = by_test (test x) refl (none_counted test xs)
  where
    by_test : (b : Bool) → test x ≡ b → (count_by test xs ≡ 0 → list_any test xs ≡ false) →
        (test x || list_any test xs) ≡ false
    by_test true e f =
        let u = count_cons test x xs in
        let v : one (test x) ≡ 1 = ap one e in
        absurd (omega arith)
    by_test false e f =
        let u = count_cons test x xs in
        let v : one (test x) ≡ 0 = ap one e in
        ap (λ b. b || list_any test xs) e ∙ f (omega arith)
