use Rattle.std.proofs.Common.{◌<◌, length, subst, sym, ap, ◌∙◌}
use Rattle.vq_model.specs.Plan.{Plan, resolver}
use Rattle.vq_access.proofs.Ranges.{resolver_exists}
use Rattle.vq_access.proofs.finding.found.Goals as goal

pub recall-requires-clause-exists : goal.recall-requires-clause-exists
recall-requires-clause-exists c =
    let same = ap (λ (p : Plan). resolver p c.args.chain c.args.value) c.plan-plan.ensures.value in
    subst (λ (p : Plan). c.in-Some.op < length p.ops) c.requires.plan
    (resolver_exists c.args.ordered.now c.plan-plan.ensures.read c.plan-plan.ensures.lawful c.args.chain c.args.value
    c.in-Some.op (sym same ∙ (sym c.resolver.ensures.value ∙ c.in-Some.is)))
