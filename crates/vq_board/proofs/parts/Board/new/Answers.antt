use Rattle.std.proofs.Common.{arith, length, ap}
use Rattle.vq_plan_laws.proofs.Cited.{few_queues}
use Rattle.vq_model.specs.declared.script.Script.{Script}
use Rattle.vq_board.proofs.parts.Board.new.Goals as goal

pub deal_submits-requires-clause-few : goal.deal_submits-requires-clause-few
deal_submits-requires-clause-few c =
    let few = few_queues c.plan-plan.result.now c.script-script.ensures.plan in
    let same = ap (λ (s : Script). length s.queues) c.script-script.ensures.script in
    omega arith

pub overflow_cast-len : goal.overflow_cast-len
overflow_cast-len c =
    let few = few_queues c.plan-plan.result.now c.script-script.ensures.plan in
    let same = ap (λ (s : Script). length s.queues) c.script-script.ensures.script in
    let l = c.len.ensures in
    omega arith
