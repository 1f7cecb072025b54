use Rattle.std.proofs.Common.{rules}
use Rattle.vq_board.specs.Named.{plan_of, view}
use Rattle.vq_board_bench.proofs.RingSteps.{may_start}
use Rattle.vq_board_bench.proofs.batches.Batches.start.Goals as goal

pub start-requires-clause-may : goal.start-requires-clause-may
start-requires-clause-may c =
    let x = c.args.self.now in
    may_start (plan_of x.board) x.count x.commands x.signals x.row c.args.j c.requires.exists (view c.args.ring.now) (view c.job_state.new.pass) c.job_state.result c.requires.ring c.job_state.ensures.pass.2 (search rules)
