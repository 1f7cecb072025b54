use Rattle.vq_order.specs.LeastLines.{AreLeastOrNone, IsOfFirst}
use Rattle.vq_order.specs.Unreached.{IsUnreachedAt}
use Rattle.vq_order.proofs.unreachable.least_unreached.Given as goal

abbrev pub invariant-loop-j : goal.invariant-loop-j
invariant-loop-j l = AreLeastOrNone (IsOfFirst (IsUnreachedAt l.plan) l.j-index) l.lowest
