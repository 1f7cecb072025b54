use Rattle.std.proofs.Common.{◌∙◌, sym}
use Rattle.vq_timeline_core.specs.declared.answers.OpPlace.TheVariants.{Past, Pending, Taken, Without}
use Rattle.vq_core.specs.CoreState.{world}
use Rattle.vq_core.proofs.Courses.{plan_facts}
use Rattle.vq_core.proofs.Ops.{index_exists}
use Rattle.vq_core.proofs.Standing.{standing_is}
use Rattle.vq_core.proofs.state.Core.standing.Goals as goal

pub place_of-requires : goal.place_of-requires
place_of-requires c =
    let s = c.args.self.now in
    index_exists s.plan (plan_facts s c.op-chain.ensures.course) c.args.op c.op-chain.result c.op-chain.ensures.op
    (world s) c.timeline.result.now c.timeline.ensures.lists

pub returns-in-Past : goal.returns-in-Past
returns-in-Past c =
    standing_is c.args.self.now c.op-chain.ensures.course c.args.op c.op-chain.result c.op-chain.ensures.op
    c.timeline.result.now
    c.timeline.ensures.lists c.timeline.ensures.kept Past (sym c.place_of.ensures.answer ∙ c.in-Past.is)

pub returns-in-Pending : goal.returns-in-Pending
returns-in-Pending c =
    standing_is c.args.self.now c.op-chain.ensures.course c.args.op c.op-chain.result c.op-chain.ensures.op
    c.timeline.result.now
    c.timeline.ensures.lists c.timeline.ensures.kept (Pending c.in-Pending.point)
    (sym c.place_of.ensures.answer ∙ c.in-Pending.is)

pub returns-in-Taken : goal.returns-in-Taken
returns-in-Taken c =
    standing_is c.args.self.now c.op-chain.ensures.course c.args.op c.op-chain.result c.op-chain.ensures.op
    c.timeline.result.now
    c.timeline.ensures.lists c.timeline.ensures.kept (Taken c.in-Taken.point)
    (sym c.place_of.ensures.answer ∙ c.in-Taken.is)

pub returns-in-Without : goal.returns-in-Without
returns-in-Without c =
    standing_is c.args.self.now c.op-chain.ensures.course c.args.op c.op-chain.result c.op-chain.ensures.op
    c.timeline.result.now
    c.timeline.ensures.lists c.timeline.ensures.kept Without (sym c.place_of.ensures.answer ∙ c.in-Without.is)
