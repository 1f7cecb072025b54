use Rattle.std.proofs.Common.{◌≡◌, ◌<◌, ◌∙◌, List, length, Some, sym, subst}
use Rattle.std.specs.Prelude.{All}
use Rattle.std.specs.List.{slice_get}
use Rattle.vq_model.specs.declared.plan.Need.{Need}
use Rattle.vq_model.specs.Plan.{Plan}
use Rattle.vq_core.proofs.Courses.{plan_facts}
use Rattle.vq_core.proofs.Jobs.{needs_are, needs_exist}
use Rattle.vq_core.proofs.state.Core.needs.Goals as goal

pub returns-clause-value : goal.returns-clause-value
returns-clause-value c =
    let p = c.args.self.now.plan in
    let at = subst (λ (p : Plan). slice_get p.jobs c.args.job ≡ Some c.job.result.now) c.plan.ensures.value
    c.job.ensures in
    c.as_slice.ensures ∙ sym (needs_are p c.args.job c.job.result.now at)

pub returns-clause-exist : goal.returns-clause-exist
returns-clause-exist c =
    let p = c.args.self.now.plan in
    subst (λ (ns : List Need). All (λ (n : Need). n.chain < length p.chains) ns) (sym (returns-clause-value c))
    (needs_exist p (plan_facts c.args.self.now c.plan.ensures.course) c.args.job)
