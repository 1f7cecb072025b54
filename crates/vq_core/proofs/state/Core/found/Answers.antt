use Rattle.std.proofs.Common.{◌≡◌, ◌∙◌, Some, sym, ap}
use Rattle.vq_model.specs.Plan.{Plan, chain, resolver, value}
use Rattle.std.specs.Prelude.{nat_le}
use Rattle.vq_ground.proofs.Searches.{find_member}
use Rattle.vq_model.proofs.Plans.{op_within}
use Rattle.vq_core.proofs.Courses.{plan_facts}
use Rattle.vq_core.proofs.state.Core.found.Goals as goal

pub standing-requires : goal.standing-requires
standing-requires c =
    let s = c.args.self.now in
    let f = plan_facts s c.plan.ensures.course in
    let t = c.args.chain in
    let op = c.unwrap-op.result in
    let is : resolver s.plan t c.args.value ≡ Some op = ap (λ (p : Plan). resolver p t c.args.value)
    (sym c.plan-2.ensures.value) ∙ (sym c.resolver.ensures.value ∙ c.unwrap-op.ensures) in
    op_within s.plan op t
    (f.formed.of_chain op t (find_member (λ e. nat_le c.args.value (value s.plan e)) (chain s.plan t) op is))
