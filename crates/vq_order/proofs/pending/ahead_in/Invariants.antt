use Rattle.vq_order.specs.LeastLines.{AreLeastOrNone, IsOfFirst, IsOfNeed}
use Rattle.vq_order.specs.Pending.{IsAhead}
use Rattle.vq_order.proofs.pending.ahead_in.Given as goal

abbrev pub invariant-loop-need : goal.invariant-loop-need
invariant-loop-need l = AreLeastOrNone (IsOfFirst (IsOfNeed l.order (IsAhead l.order l.j) l.j) l.need-index) l.lowest
