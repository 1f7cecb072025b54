use Rattle.std.proofs.Common.{arith}
use Rattle.vq_board.specs.Named.{plan_of, view}
use Rattle.vq_board_bench.proofs.ShelfRowSteps.{may_assign}
use Rattle.vq_board_bench.proofs.batches.Batches.assign.Goals as goal

pub assign-requires-clause-may : goal.assign-requires-clause-may
assign-requires-clause-may c =
    let x = c.args.self.now in
    may_assign (plan_of x.board) x.count x.commands x.signals x.row c.loop-j.j (view c.loop-j.shelf) (omega arith) c.loop-j.invariant.1
