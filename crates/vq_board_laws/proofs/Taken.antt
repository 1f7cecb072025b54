-- The next of a list, where the first n of it are done.
use Rattle.std.proofs.Common.{◌≡◌, ℕ, zero, suc, ◌<◌, Bool, true, false, not, List, [], ◌∷◌, Some, None, take, drop, refl, ap, sym, ◌∙◌, subst, inl, inr, ◌⊎◌}
use Rattle.std.specs.List.{slice_get}
use Rattle.std.proofs.lemmas.Bool.{cond-true, cond-false, false≢true}
use Rattle.vq_ground.specs.Lists.{has, AreRising}
use Rattle.vq_model.specs.Machine.{next}
use Rattle.vq_ground.proofs.Lists.{has_here, has_there, has_cases}

-- the first that isn't done
pub next_at : (done : ℕ → Bool) (xs : List ℕ) (n c : ℕ) → slice_get xs n ≡ Some c → ((x : ℕ) → has (take n xs) x ≡ true → done x ≡ true) → done c ≡ false → next done xs ≡ Some c
next_at done [] n c e f new = let g : None ≡ Some c = e in absurd cc
next_at done (x ∷ xs) zero c e f new =
    let same : x ≡ c = cc in
    cond-true (not (done x)) (Some x) (next done xs) (ap not (ap done same ∙ new)) ∙ ap (λ (z : ℕ). Some z) same
next_at done (x ∷ xs) (suc n) c e f new =
    cond-false (not (done x)) (Some x) (next done xs) (ap not (f x (has_here x (take n xs)))) ∙ next_at done xs n c e (λ y h. f y (has_there x (take n xs) y h)) new

-- among the first none there is nothing, and all is left after them
pub none_taken : (xs : List ℕ) (y : ℕ) → has (take zero xs) y ≡ true → ⊥
none_taken [] y h = false≢true h
none_taken (x ∷ xs) y h = false≢true h

pub none_dropped : (xs : List ℕ) → drop zero xs ≡ xs
none_dropped [] = refl
none_dropped (x ∷ xs) = refl

-- what is among the first n + 1
pub taken_more : (xs : List ℕ) (n c y : ℕ) → slice_get xs n ≡ Some c → has (take (suc n) xs) y ≡ true → (has (take n xs) y ≡ true) ⊎ (c ≡ y)
taken_more [] n c y e h = absurd (false≢true h)
taken_more (x ∷ xs) zero c y e h = let same : x ≡ c = cc in elim (has_cases x (take zero xs) y h) [ inl is ↦ inr (sym same ∙ is) | inr m ↦ absurd (none_taken xs y m) ]
taken_more (x ∷ xs) (suc n) c y e h = elim (has_cases x (take (suc n) xs) y h) [
  | inl is ↦ inl (subst (λ (z : ℕ). has (x ∷ take n xs) z ≡ true) is (has_here x (take n xs)))
  | inr m ↦ elim (taken_more xs n c y e m) [ inl t ↦ inl (has_there x (take n xs) y t) | inr is ↦ inr is ]
]

-- what is left after n is c and what is left after n + 1
pub drop_next : (xs : List ℕ) (n c : ℕ) → slice_get xs n ≡ Some c → drop n xs ≡ c ∷ drop (suc n) xs
drop_next [] n c e = let g : None ≡ Some c = e in absurd cc
drop_next (x ∷ []) zero c e = let same : x ≡ c = cc in ap (λ (z : ℕ). z ∷ []) same
drop_next (x ∷ y ∷ xs) zero c e = let same : x ≡ c = cc in ap (λ (z : ℕ). z ∷ y ∷ xs) same
drop_next (x ∷ xs) (suc n) c e = drop_next xs n c e

rising_drop : (xs : List ℕ) (n : ℕ) → AreRising xs → AreRising (drop n xs)
rising_drop [] zero r = tt
rising_drop [] (suc n) r = tt
rising_drop (x ∷ xs) zero r = r
rising_drop (x ∷ xs) (suc n) r = rising_drop xs n r.1

-- in a list that rises, what is left after n + 1 is greater than the one before
pub later_greater : (xs : List ℕ) (n c y : ℕ) → AreRising xs → slice_get xs n ≡ Some c → has (drop (suc n) xs) y ≡ true → c < y
later_greater xs n c y r e h = (subst AreRising (drop_next xs n c e) (rising_drop xs n r)).0 y h

-- what is left was there
pub dropped_has : (xs : List ℕ) (n y : ℕ) → has (drop n xs) y ≡ true → has xs y ≡ true
dropped_has [] zero y h = h
dropped_has [] (suc n) y h = h
dropped_has (x ∷ xs) zero y h = h
dropped_has (x ∷ xs) (suc n) y h = has_there x xs y (dropped_has xs n y h)
