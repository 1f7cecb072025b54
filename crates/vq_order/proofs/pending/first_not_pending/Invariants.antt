use Rattle.vq_order.specs.LeastLines.{AreLeastOrNone, IsOfFirst}
use Rattle.vq_order.specs.Pending.{IsAheadIn}
use Rattle.vq_order.proofs.pending.first_not_pending.Given as goal

abbrev pub invariant-loop-j : goal.invariant-loop-j
invariant-loop-j l = AreLeastOrNone (IsOfFirst (IsAheadIn l.order) l.j) l.lowest
