use Rattle.vq_board.specs.Named.{plan_of, view, role_of}
use Rattle.vq_board_bench.proofs.OnePoint.{may_make}
use Rattle.vq_board_bench.proofs.opened.give_point.Goals as goal

pub make-point-requires-clause-may : goal.make-point-requires-clause-may
make-point-requires-clause-may c =
    may_make (plan_of c.args.board.now) (view c.args.shelf.now) (role_of c.args.shelf.now) c.requires.shelf.fresh.1 c.requires.shelf.role c.requires.plan.share
