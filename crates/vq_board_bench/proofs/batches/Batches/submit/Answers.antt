use Rattle.std.proofs.Common.{arith}
use Rattle.vq_board.specs.Named.{plan_of, view}
use Rattle.vq_board_bench.proofs.HostRowSteps.{may_submit}
use Rattle.vq_board_bench.proofs.batches.Batches.submit.Goals as goal

pub submit-requires-clause-may : goal.submit-requires-clause-may
submit-requires-clause-may c =
    let x = c.args.self.now in
    may_submit (plan_of x.board) x.count x.commands x.signals x.row c.loop-j.j (view c.loop-j.host) (omega arith) c.loop-j.invariant.1
