use Rattle.vq_board.specs.Named.{plan_of, view}
use Rattle.vq_board_tests.proofs.RingSteps.{may_refer}
use Rattle.vq_board_tests.proofs.references_tests.refer.Goals as goal

pub refer-requires-clause-may : goal.refer-requires-clause-may
refer-requires-clause-may g c = may_refer (plan_of c.args.board.now) (view c.loop.pass) c.args.queue c.loop.invariant.role c.loop.invariant.refs
