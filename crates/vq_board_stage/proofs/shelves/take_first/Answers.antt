use Rattle.std.proofs.Common.{arith, ap, ℕ, length, List}
use Rattle.vq_board.specs.Named.{plan_of, view}
use Rattle.vq_board_stage.proofs.Shares.{may_make}
use Rattle.vq_board_stage.proofs.shelves.take_first.Goals as goal

pub make-requires-clause-may : goal.make-requires-clause-may
make-requires-clause-may c =
    let few = ap (λ (xs : List ℕ). length xs) c.requires.shelf.owned in may_make (plan_of c.args.board.now) (view c.args.shelf.now) c.requires.plan.signals c.requires.shelf.role (omega arith)
