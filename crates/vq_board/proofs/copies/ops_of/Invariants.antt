use Rattle.std.proofs.Common.{◌≡◌, take}
use Rattle.vq_board.proofs.copies.ops_of.Given as goal

abbrev pub invariant-loop-e : goal.invariant-loop-e
invariant-loop-e l = l.ops.items ≡ take l.e l.plan.ops
