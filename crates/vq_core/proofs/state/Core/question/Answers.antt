use Rattle.std.proofs.Common.{◌≡◌, ◌∙◌, Some, sym, ap, subst, arith}
use Rattle.std.specs.List.{slice_get}
use Rattle.std.specs.Option.{option_map_or}
use Rattle.vq_model.specs.declared.plan.PlanJob.{PlanJob}
use Rattle.vq_model.specs.declared.plan.Question.TheVariants.{Silent}
use Rattle.vq_model.specs.Plan.{Plan}
use Rattle.vq_core.proofs.Courses.{plan_facts}
use Rattle.vq_core.proofs.state.Core.question.Goals as goal

pub returns-clause-question : goal.returns-clause-question
returns-clause-question c =
    let at = subst (λ (p : Plan). slice_get p.jobs c.args.job ≡ Some c.job.result.now) c.plan.ensures.value
    c.job.ensures in
    sym (ap (λ o. option_map_or (λ (x : PlanJob). x.question) o Silent) at)

pub returns-clause-chain : goal.returns-clause-chain
returns-clause-chain c = λ t is.
    let f = plan_facts c.args.self.now c.plan.ensures.course in
    let below = f.read_chain c.args.job t (sym (returns-clause-question c) ∙ is) in
    let count = f.semaphores.chains in
    omega arith
