-- What is seen is ordered.
use Rattle.std.proofs.Common.{◌≡◌, ◌⊎◌, Bool, true, false, List, subst, inl, inr}
use Rattle.vq_capture.specs.declared.capture.Step.{Step}
use Rattle.vq_capture.specs.Points.{Point}
use Rattle.vq_capture.specs.Before.{Before, one, more}
use Rattle.vq_capture.specs.Races.{Ordered}
use Rattle.vq_capture_laws.proofs.Cited.{two_paths}
use Rattle.vq_capture_memory.specs.Seen.{AvailableAt, by_itself, made}
use Rattle.vq_capture_memory.specs.UnseenWrites.{is_read, IsDelivered, Sees}

module _ (steps : List Step) where
  -- from a write to what comes behind where it is available
  behind_available : (x p y : Point) → AvailableAt steps x p → Before steps p y → Before steps x y
  behind_available x p y (by_itself e) b = b
  behind_available x p y (made m) b = two_paths steps x p y (one m.edge) b

  to_visible : (x p q : Point) → (p ≡ q) ⊎ Before steps p q → AvailableAt steps x p → AvailableAt steps x q ⊎ Before steps x q
  to_visible x p q (inl e) a = inl (subst (λ (v : Point). AvailableAt steps x v) e a)
  to_visible x p q (inr b) a = inr (behind_available x p q a b)

  delivered_before : (w : Bool) (x y : Point) → IsDelivered steps w x y → Before steps x y
  delivered_before false x y (inl m) = one m.edge
  delivered_before false x y (inr (p, a, b)) = behind_available x p y a b
  delivered_before true x y (p, q, a, v) = elim (to_visible x p q v.behind a) [
    | inl c ↦ behind_available x q y c (one v.edge)
    | inr b ↦ more b v.edge
  ]

  pub seen_is_ordered : (a b : Step) → Sees steps a b → Ordered steps a b
  seen_is_ordered a b s x y p q = delivered_before (is_read b.statement) x y (s x y p q)
