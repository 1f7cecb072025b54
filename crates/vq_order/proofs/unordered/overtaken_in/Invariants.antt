use Rattle.vq_order.specs.LeastLines.{AreLeastOrNone, IsOfFirst, IsOfNeed}
use Rattle.vq_order.specs.UnorderedLines.{IsOvertaken}
use Rattle.vq_order.proofs.unordered.overtaken_in.Given as goal

abbrev pub invariant-loop-need : goal.invariant-loop-need
invariant-loop-need l = AreLeastOrNone (IsOfFirst (IsOfNeed l.order (IsOvertaken l.order l.i) l.i) l.need-index) l.lowest
