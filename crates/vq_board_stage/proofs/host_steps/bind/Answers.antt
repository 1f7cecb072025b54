use Rattle.std.proofs.Common.{◌∙◌, ap, rules}
use Rattle.vq_board.specs.Named.{plan_of, view}
use Rattle.vq_board_laws.specs.Roles.{role_number}
use Rattle.vq_board_laws.specs.declared.view.View.{View}
use Rattle.vq_board_stage.proofs.Binds.{may_bind_started}
use Rattle.vq_board_stage.proofs.Chains.{none_smaller}
use Rattle.vq_board_stage.proofs.Shares.{may_make_one}
use Rattle.vq_board_stage.proofs.host_steps.bind.Goals as goal

pub make-requires-clause-may : goal.make-requires-clause-may
make-requires-clause-may c =
    let p = plan_of c.args.board.now in
    let fresh = c.requires.shelf.fresh.1 in
    may_make_one p (view c.args.shelf.now) c.args.op c.args.op c.requires.step.op.its_chain (ap (λ (v : View). v.role) fresh ∙ ap (role_number p) c.requires.shelf.role) (ap (λ (v : View). v.owned) fresh)

pub bind-requires-clause-may : goal.bind-requires-clause-may
bind-requires-clause-may c =
    let p = plan_of c.args.board.now in
    let e = c.args.op in
    may_bind_started p (view c.assign.new.pass) e e c.args.step c.requires.step.op.its_job (search rules) (search rules) (λ f s. absurd (none_smaller p f e c.requires.single s)) c.requires.step.step.step (search rules)
