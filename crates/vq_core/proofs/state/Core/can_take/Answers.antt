use Rattle.std.proofs.Common.{◌∙◌, sym}
use Rattle.vq_core.proofs.GuardLaws.{take_iff, take_turn}
use Rattle.vq_core.proofs.Tests.{never, confirmed, refuted, none_of}
use Rattle.vq_core.proofs.state.Core.can_take.Goals as goal

pub returns-then-not-may_take : goal.returns-then-not-may_take
returns-then-not-may_take c =
    never (λ g. refuted c.may_take.result c.may_take.ensures c.if-not-may_take.true (take_turn
    c.args.self.now c.plan.ensures.course c.args.op c.op-chain.result c.op-chain.ensures.op c.args.point
    c.args.fresh g))

pub returns : goal.returns
returns c =
    let none = none_of c.point_of.result (sym c.is_some.ensures ∙ c.if-is_some.false) in
    take_iff c.args.self.now c.plan.ensures.course c.args.op c.op-chain.result c.op-chain.ensures.op c.args.point
    c.args.fresh c.is_point_in_turn.result (sym c.point_of.ensures ∙ none)
    (confirmed c.may_take.result c.may_take.ensures c.if-not-may_take.false) c.is_point_in_turn.ensures
