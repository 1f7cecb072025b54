use Rattle.std.proofs.Common.{◌∙◌, ◌≤◌, length, sym, ap, arith}
use Rattle.vq_model.specs.Plan.{Plan}
use Rattle.vq_core_run.proofs.Beyond.{pointless}
use Rattle.vq_core_run.proofs.looks.point_of.Goals as goal

pub returns-then-op-ops : goal.returns-then-op-ops
returns-then-op-ops c =
    let plan = c.plan.ensures.value ∙ c.ordered.ensures.value in
    let count = c.ops.ensures ∙ ap (λ (p : Plan). length p.ops) plan in
    let h = c.if-op-ops.true in
    let beyond : length c.args.core.now.plan.ops ≤ c.args.op = omega arith in
    sym (pointless c.args.core.now c.ordered.ensures.course c.args.op beyond)
