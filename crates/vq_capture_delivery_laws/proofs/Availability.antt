-- A write is available to what it reaches, by a path whose first edge makes it available.
use Rattle.std.proofs.Common.{◌≡◌, List, inl, inr, None}
use Rattle.vq_capture.specs.declared.capture.Step.{Step}
use Rattle.vq_capture.specs.Points.{Point}
use Rattle.vq_capture.specs.Before.{Before, one, more}
use Rattle.vq_capture_memory.specs.Seen.{AvailableAt, by_itself, made, IsAvailableTo}
use Rattle.vq_capture_delivery_laws.proofs.PassLanes.{Reaches, opened, passed}
use Rattle.vq_capture_delivery_laws.proofs.MemoryEdges.{Opens}

module _ (steps : List Step) (x : Point) where
  abbrev Reach : Point → Type 0
  Reach y = Reaches steps Opens x y

  pub to_available : (y : Point) → Reach y → IsAvailableTo steps x y
  to_available y (opened e (inl n)) = inr (x, by_itself n, one e)
  to_available y (opened e (inr a)) = inl (record { edge = e; scope = a })
  to_available y (passed {y = z} r e) = elim (to_available z r) [
    | inl m ↦ inr (z, made m, one e)
    | inr m ↦ inr (m.0, m.1, more m.2 e)
  ]

  pub reach_before : (y : Point) → x.stage ≡ None → Before steps x y → Reach y
  reach_before y n (one e) = opened e (inl n)
  reach_before y n (more {y = z} b e) = passed (reach_before z n b) e

  pub reach_on : (p y : Point) → Reach p → Before steps p y → Reach y
  reach_on p y r (one e) = passed r e
  reach_on p y r (more {y = z} b e) = passed (reach_on p z r b) e

  by_point : (p y : Point) → AvailableAt steps x p → Before steps p y → Reach y
  by_point p y (by_itself n) b = reach_before y n b
  by_point p y (made m) b = reach_on p y (opened m.edge (inr m.scope)) b

  pub of_available : (y : Point) → IsAvailableTo steps x y → Reach y
  of_available y (inl m) = opened m.edge (inr m.scope)
  of_available y (inr (p, a, b)) = by_point p y a b
