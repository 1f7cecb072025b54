use Rattle.std.proofs.Common.{sym, ◌∙◌}
use Rattle.vq_model.specs.Signals.{kind_of}
use Rattle.vq_model.proofs.Plans.{op_within}
use Rattle.vq_plan_laws.proofs.Cited.{plan_lines}
use Rattle.vq_order.proofs.BinaryChains.{binary_is}
use Rattle.vq_order.proofs.UnorderedSteps.{by_next}
use Rattle.vq_order.proofs.unordered.overtaken.Goals as goal

pub overtaken_by-requires-clause-op_exists : goal.overtaken_by-requires-clause-op_exists
overtaken_by-requires-clause-op_exists c = op_within c.args.order.now c.in-Some.op c.args.need.now.chain c.in-Some.ensures.in_chain

pub returns-in-Some : goal.returns-in-Some
returns-in-Some c =
    let p = c.args.order.now in
    let n = c.args.need.now in
    by_next p (plan_lines p c.is_binary.ensures.complete.plan) c.args.i n (binary_is (kind_of p.script n.chain) (sym c.is_binary.ensures.value ∙ c.if-not-is_binary.false)) c.in-Some.op c.in-Some.ensures c.overtaken_by.result c.overtaken_by.ensures
