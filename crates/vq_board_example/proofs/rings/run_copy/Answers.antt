use Rattle.vq_board.specs.Named.{plan_of, view}
use Rattle.vq_board_example.proofs.Waits.{needed}
use Rattle.vq_board_example.proofs.rings.run_copy.Goals as goal

pub start-requires-clause-reached : goal.start-requires-clause-reached
start-requires-clause-reached g c = needed (plan_of c.args.board.now) (view c.await_signal.new.ring).known c.requires.plan.jobs c.await_signal.ensures.made
