use Rattle.std.proofs.Common.{◌≡◌, ◌∙◌, subst, Some}
use Rattle.std.specs.List.{slice_get}
use Rattle.vq_model.specs.Plan.{Plan}
use Rattle.vq_core.specs.CoreState.{world}
use Rattle.vq_core.proofs.Courses.{plan_facts}
use Rattle.vq_core.proofs.Ops.{chain_exists, index_exists, point_is}
use Rattle.vq_core.proofs.state.Core.point_of.Goals as goal

pub timeline-requires : goal.timeline-requires
timeline-requires c =
    let s = c.args.self.now in
    let at = subst (λ (p : Plan). slice_get p.ops c.args.op ≡ Some c.op-chain.result) c.plan.ensures.value
    c.op-chain.ensures in
    chain_exists s.plan (plan_facts s c.plan.ensures.course) c.args.op c.op-chain.result at

pub point_at-requires : goal.point_at-requires
point_at-requires c =
    let s = c.args.self.now in
    let at = subst (λ (p : Plan). slice_get p.ops c.args.op ≡ Some c.op-chain.result) c.plan.ensures.value
    c.op-chain.ensures in
    index_exists s.plan (plan_facts s c.plan.ensures.course) c.args.op c.op-chain.result at (world s)
    c.timeline.result.now c.timeline.ensures.lists

pub returns : goal.returns
returns c =
    let s = c.args.self.now in
    let at = subst (λ (p : Plan). slice_get p.ops c.args.op ≡ Some c.op-chain.result) c.plan.ensures.value
    c.op-chain.ensures in
    c.point_at.ensures ∙ point_is s.plan (plan_facts s c.plan.ensures.course) c.args.op c.op-chain.result at (world
    s) c.timeline.result.now c.timeline.ensures.lists
