-- A function, changed at one place.
use Rattle.std.proofs.Common.{◌≡◌, ℕ, eqb, refl, Bool, true, sym, ◌∙◌, ◌⊎◌, inl, inr, subst}
use Rattle.std.proofs.lemmas.Bool.{eq-eqb, cond-true, ne_eqb, cond-false, cases_eq}
use Rattle.vq_model.specs.Machine.{put}

pub put_here : {A : Type 0} (f : ℕ → A) (at : ℕ) (x : A) → put f at x at ≡ x
put_here f at x = cond-true (eqb at at) x (f at) (eq-eqb at at refl)

pub put_there : {A : Type 0} (f : ℕ → A) (at : ℕ) (x : A) (k : ℕ) → (k ≡ at → ⊥) → put f at x k ≡ f k
put_there f at x k n = cond-false (eqb k at) x (f k) (ne_eqb k at n)

pub put_cases : (f : ℕ → Bool) (at k : ℕ) → put f at true k ≡ true → (k ≡ at) ⊎ (f k ≡ true)
put_cases f at k h = elim (cases_eq k at) [ inl e ↦ inl e | inr n ↦ inr (sym (put_there f at true k n) ∙ h) ]

pub put_keeps : (f : ℕ → Bool) (at k : ℕ) → f k ≡ true → put f at true k ≡ true
put_keeps f at k h = elim (cases_eq k at) [
  | inl e ↦ subst (λ z. put f at true z ≡ true) (sym e) (put_here f at true)
  | inr n ↦ put_there f at true k n ∙ h
]
