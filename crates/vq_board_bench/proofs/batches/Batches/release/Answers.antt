use Rattle.std.proofs.Common.{arith}
use Rattle.vq_board.specs.Named.{plan_of, view}
use Rattle.vq_board_bench.proofs.HostRowSteps.{may_release}
use Rattle.vq_board_bench.proofs.batches.Batches.release.Goals as goal

pub release-requires-clause-may : goal.release-requires-clause-may
release-requires-clause-may c =
    let x = c.args.self.now in
    may_release (plan_of x.board) x.count x.commands x.signals x.row c.loop-j.j (view c.loop-j.host) (omega arith) c.loop-j.invariant.1
