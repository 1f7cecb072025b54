use Rattle.vq_order.specs.LeastLines.{AreLeastOrNone, IsOfFirst, IsOfNeed}
use Rattle.vq_order.specs.Unreached.{IsUnreached}
use Rattle.vq_order.proofs.unreachable.unreached_in.Given as goal

abbrev pub invariant-loop-need : goal.invariant-loop-need
invariant-loop-need l = AreLeastOrNone (IsOfFirst (IsOfNeed l.plan (IsUnreached l.plan l.j) l.j) l.need-index) l.lowest
