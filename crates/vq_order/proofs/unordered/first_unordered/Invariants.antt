use Rattle.std.proofs.Common.{length}
use Rattle.vq_order.specs.LeastLines.{IsOfFirst, AreLeastOrNone}
use Rattle.vq_order.specs.UnorderedLines.{IsUnorderedIn, IsOvertakenIn}
use Rattle.vq_order.proofs.LineSearches.{Either}
use Rattle.vq_order.proofs.unordered.first_unordered.Given as goal

abbrev pub invariant-loop-t : goal.invariant-loop-t
invariant-loop-t l = AreLeastOrNone (IsOfFirst (IsUnorderedIn l.order) l.t) l.lowest

abbrev pub invariant-loop-i : goal.invariant-loop-i
invariant-loop-i l =
    AreLeastOrNone (Either (IsOfFirst (IsUnorderedIn l.order) (length l.order.chains)) (IsOfFirst (IsOvertakenIn l.order) l.i)) l.lowest
