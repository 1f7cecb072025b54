-- Lists that are written one item after another.
use Rattle.std.proofs.Common.{◌≡◌, ℕ, zero, suc, ◌+◌, ◌<◌, true, List, [], ◌∷◌, ◌++◌, length, take, get_or, Some, None, refl, sym, ◌⊎◌, inl, inr, subst, arith, add-one}
use Rattle.std.specs.List.{slice_get}
use Rattle.std.proofs.lemmas.Bool.{false≢true}
use Rattle.std.proofs.Math.Seq.{take-suc}
use Rattle.vq_ground.specs.Lists.{has}
use Rattle.vq_ground.proofs.Lists.{has-append_cases, has_cases}

-- one more of a list
pub taken_cases : (xs : List ℕ) (i x : ℕ) → i < length xs → has (take (i + 1) xs) x ≡ true → (has (take i xs) x ≡ true) ⊎ (x ≡ get_or xs i 0)
taken_cases xs i x l h = elim (has-append_cases (take i xs) (get_or xs i 0 ∷ []) x (subst (λ (ys : List ℕ). has ys x ≡ true) (rw add-one (take-suc xs i 0 l)) h)) [
  | inl m ↦ inl m
  | inr m ↦ elim (has_cases (get_or xs i 0) [] x m) [ inl e ↦ inr (sym e) | inr t ↦ absurd (false≢true t) ]
]

-- the items of a list with one more
pub last_item_cases : {X : Type 0} (xs : List X) (y : X) (i : ℕ) (x : X) → slice_get (xs ++ y ∷ []) i ≡ Some x → (slice_get xs i ≡ Some x) ⊎ ((i ≡ length xs) × (x ≡ y))
last_item_cases [] y zero x e = let q : x ≡ y = cc in inr (refl, q)
last_item_cases [] y (suc i) x e = absurd (let c : None ≡ Some x = e in cc)
last_item_cases (z ∷ xs) y zero x e = inl e
last_item_cases (z ∷ xs) y (suc i) x e = elim (last_item_cases xs y i x e) [ inl m ↦ inl m | inr m ↦ (let a = m.0 in inr ((omega arith), m.1)) ]
