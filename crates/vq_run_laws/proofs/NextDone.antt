-- The first element of a list that isn't done.
use Rattle.std.proofs.Common.{◌≡◌, ℕ, Bool, true, false, not, List, [], ◌∷◌, Some, refl, sym, ap, ◌∙◌, subst, ◌<◌, inl, inr, arith}
use Rattle.std.proofs.lemmas.Bool.{cond-true, cond-false, false≢true}
use Rattle.vq_ground.specs.Lists.{has, AreRising}
use Rattle.vq_model.specs.Machine.{next}
use Rattle.vq_ground.proofs.Lists.{has_here, has_there, has_cases}

-- The first that isn't done

pub next_in : (done : ℕ → Bool) (xs : List ℕ) (c : ℕ) → next done xs ≡ Some c → (has xs c ≡ true) × (done c ≡ false)
next_in done [] c h = cc
next_in done (y ∷ xs) c h = by_test (done y) refl (next_in done xs c)
  where
    by_test : (b : Bool) → done y ≡ b → (next done xs ≡ Some c → (has xs c ≡ true) × (done c ≡ false)) → (has (y ∷ xs) c ≡ true) × (done c ≡ false)
    by_test true e f =
        let h' : next done xs ≡ Some c = sym (cond-false (not (done y)) (Some y) (next done xs) (ap not e)) ∙ h in
        let r = f h' in
        (has_there y xs c r.0, r.1)
    by_test false e f =
        let h' : Some y ≡ Some c = sym (cond-true (not (done y)) (Some y) (next done xs) (ap not e)) ∙ h in
        let i : y ≡ c = cc in
        (subst (λ z. has (y ∷ xs) z ≡ true) i (has_here y xs), subst (λ z. done z ≡ false) i e)

-- what stands in front of it, in a list that rises, is done
pub next_before : (done : ℕ → Bool) (xs : List ℕ) (c x : ℕ) → AreRising xs → next done xs ≡ Some c → has xs x ≡ true → x < c → done x ≡ true
next_before done [] c x r h m l = absurd (false≢true m)
next_before done (y ∷ xs) c x r h m l = by_test (done y) refl (next_before done xs c x r.1)
  where
    by_test : (b : Bool) → done y ≡ b → (next done xs ≡ Some c → has xs x ≡ true → x < c → done x ≡ true) → done x ≡ true
    by_test true e f =
        let h' : next done xs ≡ Some c = sym (cond-false (not (done y)) (Some y) (next done xs) (ap not e)) ∙ h in
        elim (has_cases y xs x m) [ inl i ↦ subst (λ z. done z ≡ true) i e | inr i ↦ f h' i l ]
    by_test false e f =
        let h' : Some y ≡ Some c = sym (cond-true (not (done y)) (Some y) (next done xs) (ap not e)) ∙ h in
        let i : y ≡ c = cc in
        elim (has_cases y xs x m) [ inl j ↦ absurd (omega arith) | inr j ↦ let k = r.0 x j in absurd (omega arith) ]
