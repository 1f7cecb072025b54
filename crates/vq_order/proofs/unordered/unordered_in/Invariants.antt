use Rattle.vq_order.specs.LeastLines.{IsOfFirst, AreLeastOrNone}
use Rattle.vq_order.specs.UnorderedLines.{IsUnorderedAt}
use Rattle.vq_order.proofs.unordered.unordered_in.Given as goal

abbrev pub invariant-loop-k : goal.invariant-loop-k
invariant-loop-k l = AreLeastOrNone (IsOfFirst (IsUnorderedAt l.order l.t) l.k) l.lowest
