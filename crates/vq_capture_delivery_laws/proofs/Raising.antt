-- What a clock says that was raised in some lanes.
use Rattle.std.proofs.Common.{◌≡◌, ◌⊎◌, ◌<◌, Bool, true, false, ℕ, List, [], ◌∷◌, cond, refl, sym, subst, inl, inr}
use Rattle.std.specs.Prelude.{◌==◌}
use Rattle.std.proofs.lemmas.Bool.{eqb-true, eq-eqb}
use Rattle.vq_capture.specs.Points.{IsMember}
use Rattle.vq_capture_check.specs.Clocks.{later, raise}
use Rattle.vq_capture_clocks_laws.proofs.Cited.{of_later, below_first, below_second}
use Rattle.vq_capture_delivery.specs.Delivery.{raised}

module _ (v k line : ℕ) where
  one_raised : (c : ℕ → ℕ) (j : ℕ) → v < raise c j line k → (v < c k) ⊎ ((k ≡ j) × (v < line))
  one_raised c j = by_test (k == j) refl
    where
      by_test : (t : Bool) → (k == j) ≡ t → v < cond t (later (c k) line) (c k) → (v < c k) ⊎ ((k ≡ j) × (v < line))
      by_test true e l = elim (of_later v (c k) line l) [ inl m ↦ inl m | inr m ↦ inr (eqb-true k j e, m) ]
      by_test false e l = inl l

  pub raised_from : (ls : List ℕ) (c : ℕ → ℕ) → v < raised c line ls k → (v < c k) ⊎ (IsMember k ls × (v < line))
  raised_from [] c l = inl l
  raised_from (j ∷ js) c l = by_rest (raised_from js (raise c j line) l)
    where
      by_one : (v < c k) ⊎ ((k ≡ j) × (v < line)) → (v < c k) ⊎ (IsMember k (j ∷ js) × (v < line))
      by_one (inl m) = inl m
      by_one (inr (e, m)) = inr (inl e, m)

      by_rest : (v < raise c j line k) ⊎ (IsMember k js × (v < line)) → (v < c k) ⊎ (IsMember k (j ∷ js) × (v < line))
      by_rest (inl m) = by_one (one_raised c j m)
      by_rest (inr (e, m)) = inr (inr e, m)

  one_keeps : (c : ℕ → ℕ) (j : ℕ) → v < c k → v < raise c j line k
  one_keeps c j l = by_test (k == j)
    where
      by_test : (t : Bool) → v < cond t (later (c k) line) (c k)
      by_test true = below_first v (c k) line l
      by_test false = l

  pub raised_keeps : (ls : List ℕ) (c : ℕ → ℕ) → v < c k → v < raised c line ls k
  raised_keeps [] c l = l
  raised_keeps (j ∷ js) c l = raised_keeps js (raise c j line) (one_keeps c j l)

  pub raised_own : (ls : List ℕ) (c : ℕ → ℕ) → IsMember k ls → v < line → v < raised c line ls k
  raised_own [] c m l = absurd m
  raised_own (j ∷ js) c (inl e) l =
      raised_keeps js (raise c j line)
      (subst (λ (t : Bool). v < cond t (later (c k) line) (c k)) (sym (eq-eqb k j e)) (below_second v (c k) line l))
  raised_own (j ∷ js) c (inr m) l = raised_own js (raise c j line) m l
