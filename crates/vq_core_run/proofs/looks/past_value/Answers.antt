use Rattle.std.proofs.Common.{◌∙◌, ◌≤◌, length, ap, arith}
use Rattle.vq_model.specs.Plan.{Plan}
use Rattle.vq_core.specs.CoreState.{world}
use Rattle.vq_core_run.proofs.Beyond.{past_beyond}
use Rattle.vq_core_run.proofs.PastValues.{past_value_is}
use Rattle.vq_core_run.proofs.looks.past_value.Goals as goal

pub returns-then-chain-chains : goal.returns-then-chain-chains
returns-then-chain-chains c =
    let plan = c.plan.ensures.value ∙ c.ordered.ensures.value in
    let count = c.chains.ensures ∙ ap (λ (p : Plan). length p.chains) plan in
    let h = c.if-chain-chains.true in
    let beyond : length c.args.core.now.plan.chains ≤ c.args.chain = omega arith in
    past_beyond c.args.core.now c.ordered.ensures.course c.args.chain beyond

pub returns : goal.returns
returns c =
    c.past.ensures
    ∙ past_value_is c.args.core.now.plan (world c.args.core.now) c.args.chain c.timeline.result.now
    c.timeline.ensures.lists c.timeline.ensures.kept
