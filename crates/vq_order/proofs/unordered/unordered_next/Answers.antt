use Rattle.std.proofs.Common.{◌+◌, arith}
use Rattle.vq_plan_laws.proofs.Cited.{plan_well_formed}
use Rattle.vq_order.proofs.UnorderedLaws.{chain_op_exists}
use Rattle.vq_order.proofs.unordered.unordered_next.Goals as goal

pub unordered_two-requires-clause-first_exists : goal.unordered_two-requires-clause-first_exists
unordered_two-requires-clause-first_exists c =
    let l = c.if-k-ops.true in
    chain_op_exists c.args.order.now (plan_well_formed c.args.order.now c.chain-ops.ensures.complete.plan) c.args.t c.chain-ops.result.now c.chain-ops.ensures.value c.args.k (omega arith)

pub unordered_two-requires-clause-second_exists : goal.unordered_two-requires-clause-second_exists
unordered_two-requires-clause-second_exists c =
    let l = c.if-k-ops.true in
    chain_op_exists c.args.order.now (plan_well_formed c.args.order.now c.chain-ops.ensures.complete.plan) c.args.t c.chain-ops.result.now c.chain-ops.ensures.value (c.args.k + 1) (omega arith)
