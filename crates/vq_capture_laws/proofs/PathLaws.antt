-- Paths lead down, and two make one.
use Rattle.std.proofs.Common.{◌<◌, List, arith}
use Rattle.vq_capture.specs.declared.capture.Step.{Step}
use Rattle.vq_capture.specs.Points.{Point}
use Rattle.vq_capture.specs.Before.{Before, one, more}
use Rattle.vq_capture_laws.proofs.BehindPoints.{down}

module _ (steps : List Step) (x : Point) where
  pub leads_down : (y : Point) → Before steps x y → x.step.line < y.step.line
  leads_down y (one e) = down steps x y e.direct
  leads_down y (more {y = w} b e) = let l = leads_down w b in let m = down steps w y e.direct in omega arith

  pub two_paths : (y z : Point) → Before steps x y → Before steps y z → Before steps x z
  two_paths y z b (one e) = more b e
  two_paths y z b (more {y = w} c e) = more (two_paths y w b c) e

  pub not_itself : Before steps x x → ⊥
  not_itself b = let l = leads_down x b in omega arith
