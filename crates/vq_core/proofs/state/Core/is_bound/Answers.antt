use Rattle.std.proofs.Common.{◌≡◌, ap, ◌∙◌, subst, Some}
use Rattle.std.specs.Prelude.{nat_lt}
use Rattle.std.specs.List.{slice_get}
use Rattle.vq_model.specs.Plan.{Plan}
use Rattle.vq_core.specs.CoreState.{world}
use Rattle.vq_core.proofs.Courses.{plan_facts}
use Rattle.vq_core.proofs.Ops.{chain_exists, first_is}
use Rattle.vq_core.proofs.state.Core.is_bound.Goals as goal

pub timeline-requires : goal.timeline-requires
timeline-requires c =
    let s = c.args.self.now in
    let at = subst (λ (p : Plan). slice_get p.ops c.args.op ≡ Some c.op-chain.result) c.plan.ensures.value
    c.op-chain.ensures in
    chain_exists s.plan (plan_facts s c.plan.ensures.course) c.args.op c.op-chain.result at

pub returns : goal.returns
returns c =
    let s = c.args.self.now in
    let at = subst (λ (p : Plan). slice_get p.ops c.args.op ≡ Some c.op-chain.result) c.plan.ensures.value
    c.op-chain.ensures in
    ap (nat_lt c.op-chain.result.index) c.bound.ensures
    ∙ first_is s.plan (plan_facts s c.plan.ensures.course) c.args.op c.op-chain.result at (world s).bound
    c.timeline.result.now.bound c.timeline.ensures.lists.bound
