-- The first numbers of a list, the last of them first.
use Rattle.std.proofs.Common.{◌==◌, ◌≡◌, ℕ, zero, suc, ◌+◌, ◌<◌, List, [], ◌∷◌, ◌++◌, true, false, ◌||◌, Bool, Some, reverse, take, refl, sym, ap, ◌∙◌, subst, arith, inl, inr}
use Rattle.std.specs.List.{slice_get}
use Rattle.std.proofs.lemmas.List.{reverse-append}
use Rattle.std.proofs.lemmas.List.Folds.{list_any-append}
use Rattle.std.proofs.lemmas.Bool.{false≢true}
use Rattle.vq_ground.proofs.Bools.{or_false}
use Rattle.vq_ground.specs.Lists.{has}
use Rattle.vq_ground.proofs.Lists.{has_cases, has_here, has_there}

next_taken : (xs : List ℕ) (n x : ℕ) → slice_get xs n ≡ Some x → take (suc n) xs ≡ take n xs ++ x ∷ []
next_taken [] n x h = absurd (let z = h in cc)
next_taken (y ∷ ys) zero x h = let same : y ≡ x = let z = h in cc in ap (λ z. z ∷ []) same
next_taken (y ∷ ys) (suc n) x h = ap (λ (zs : List ℕ). y ∷ zs) (next_taken ys n x h)

pub one_more : (xs : List ℕ) (n x : ℕ) → slice_get xs n ≡ Some x → x ∷ reverse (take n xs) ≡ reverse (take (n + 1) xs)
one_more xs n x h =
    let more : suc n ≡ n + 1 = omega arith in
    sym (ap reverse (ap (λ (k : ℕ). take k xs) (sym more) ∙ next_taken xs n x h) ∙ reverse-append (take n xs) (x ∷ []))

commute : (a b : Bool) → (a || b) ≡ (b || a)
commute true true = refl
commute true false = refl
commute false true = refl
commute false false = refl

pub has_reverse : (xs : List ℕ) (x : ℕ) → has (reverse xs) x ≡ has xs x
has_reverse [] x = refl
has_reverse (y ∷ ys) x =
    ap (λ (zs : List ℕ). has zs x) (reverse-append (y ∷ []) ys)
    ∙ list_any-append (λ z. z == x) (reverse ys) (y ∷ [])
    ∙ (λ i. has_reverse ys x i || has (y ∷ []) x)
    ∙ commute (has ys x) (has (y ∷ []) x)
    ∙ ap (λ b. b || has ys x) (or_false (y == x))

pub record IsPlaced (xs : List ℕ) (n x : ℕ) : Type 0 where
  pub place : ℕ
  pub before : place < n
  pub is : slice_get xs place ≡ Some x

pub taken_place : (n : ℕ) (xs : List ℕ) (x : ℕ) → has (take n xs) x ≡ true → IsPlaced xs n x
taken_place zero xs x h = absurd (false≢true h)
taken_place (suc n) [] x h = absurd (false≢true h)
taken_place (suc n) (y ∷ ys) x h = elim (has_cases y (take n ys) x h) [
  | inl same ↦ record { place = 0; before = omega arith; is = ap Some same }
  | inr m ↦ let r = taken_place n ys x m in let low = r.before in record { place = suc r.place; before = omega arith; is = r.is }
]

pub place_taken : (n : ℕ) (xs : List ℕ) (k x : ℕ) → k < n → slice_get xs k ≡ Some x → has (take n xs) x ≡ true
place_taken zero xs k x l h = absurd (omega arith)
place_taken (suc n) [] k x l h = absurd (let z = h in cc)
place_taken (suc n) (y ∷ ys) zero x l h = let same : y ≡ x = let z = h in cc in subst (λ z. has (y ∷ take n ys) z ≡ true) same (has_here y (take n ys))
place_taken (suc n) (y ∷ ys) (suc k) x l h = has_there y (take n ys) x (place_taken n ys k x (omega arith) h)
