use Rattle.std.proofs.Common.{arith}
use Rattle.vq_board.specs.Named.{plan_of, view}
use Rattle.vq_board_bench.proofs.ShelfRowSteps.{may_make}
use Rattle.vq_board_bench.proofs.batches.Batches.make.Goals as goal

pub make-requires-clause-may : goal.make-requires-clause-may
make-requires-clause-may c =
    let x = c.args.self.now in
    may_make (plan_of x.board) x.count x.commands x.signals x.row c.loop-j.j (view c.loop-j.shelf) (omega arith) c.loop-j.invariant.1
