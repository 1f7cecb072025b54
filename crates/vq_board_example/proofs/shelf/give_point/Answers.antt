use Rattle.std.proofs.Common.{◌∙◌, ap}
use Rattle.vq_board_laws.specs.Roles.{role_number}
use Rattle.vq_board_laws.specs.declared.view.View.{View}
use Rattle.vq_board.specs.Named.{plan_of, view}
use Rattle.vq_board_example.proofs.Chain.{may_make}
use Rattle.vq_board_example.proofs.shelf.give_point.Goals as goal

pub make-point-requires-clause-may : goal.make-point-requires-clause-may
make-point-requires-clause-may c =
    let p = plan_of c.args.board.now in
    let fresh = c.requires.shelf.fresh.1 in
    may_make p c.requires.plan.signal (view c.args.shelf.now) (ap (λ (v : View). v.role) fresh ∙ ap (role_number p) c.requires.shelf.role) (ap (λ (v : View). v.owned) fresh)
