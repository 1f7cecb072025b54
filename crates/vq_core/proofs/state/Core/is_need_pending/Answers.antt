use Rattle.std.proofs.Common.{◌≡◌, ◌∙◌, Some, sym, subst}
use Rattle.vq_model.specs.Plan.{Plan, resolver}
use Rattle.vq_core.proofs.Courses.{plan_facts}
use Rattle.vq_core.proofs.Jobs.{resolver_exists}
use Rattle.vq_core.proofs.state.Core.is_need_pending.Goals as goal

pub is_bound-requires : goal.is_bound-requires
is_bound-requires c =
    let p = c.args.self.now.plan in
    let found = subst (λ (q : Plan). resolver q c.args.need.chain c.args.need.value ≡ Some c.in-Some.op)
    c.plan-plan.ensures.value (sym c.resolver.ensures.value ∙ c.in-Some.is) in
    resolver_exists p (plan_facts c.args.self.now c.plan-plan.ensures.course) c.args.need.chain c.args.need.value
    c.in-Some.op found
