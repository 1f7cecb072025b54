use Rattle.std.proofs.Common.{◌∙◌, Option, None, rules}
use Rattle.std.proofs.lemmas.Result.{IfOk-weaker}
use Rattle.vq_model.specs.declared.plan.Answer.{Answer}
use Rattle.vq_core.proofs.Filled.{filled}
use Rattle.vq_core.proofs.answer_room.no_answers.Goals as goal

pub returns : goal.returns
returns c =
    IfOk-weaker c.vec.result _ _ (λ v made. made (λ y same. search rules) ∙ filled (Option Answer) None c.args.jobs)
    c.vec.ensures.items_if_clones_equal
