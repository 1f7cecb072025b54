use Rattle.std.proofs.Common.{◌∙◌, subst, sym}
use Rattle.std.proofs.lemmas.Option.{IfSome_then}
use Rattle.vq_model.specs.Plan.{Plan}
use Rattle.vq_board_stage.specs.Scenes.{IsPlanOf}
use Rattle.vq_board_stage.proofs.scenes.opened.Goals as goal

pub returns-clause-plan : goal.returns-clause-plan
returns-clause-plan c =
    IfSome_then c.board_of.result c.board_of.ensures.plan (λ t e. subst (λ (p : Plan). IsPlanOf c.args.scene p) (c.plan.ensures.value ∙ sym e) (c.has.ensures c.if-not-has.false))
