use Rattle.std.proofs.Common.{arith}
use Rattle.vq_board.specs.Named.{plan_of, view}
use Rattle.vq_board_bench.proofs.ShelfRowSteps.{may_bind}
use Rattle.vq_board_bench.proofs.batches.Batches.bind.Goals as goal

pub bind-requires-clause-may : goal.bind-requires-clause-may
bind-requires-clause-may c =
    let x = c.args.self.now in
    may_bind (plan_of x.board) x.count x.commands x.signals x.row c.loop-j.j (view c.loop-j.shelf) (omega arith) c.loop-j.invariant.1
