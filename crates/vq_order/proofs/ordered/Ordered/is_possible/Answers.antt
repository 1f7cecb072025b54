use Rattle.std.proofs.Common.{◌≡◌, Some, ap, ◌∙◌, sym}
use Rattle.std.specs.Option.{option_map}
use Rattle.vq_plan_laws.proofs.Cited.{plan_lanes}
use Rattle.vq_model.specs.Plan.{Plan, job_of}
use Rattle.vq_order.proofs.ordered.Ordered.is_possible.Goals as goal

pub before-requires-clause-second : goal.before-requires-clause-second
before-requires-clause-second c =
    let o : job_of c.args.self.now c.args.op ≡ Some c.op-job.result.job = ap (λ (q : Plan). job_of q c.args.op) (sym c.plan.ensures.value) ∙ ap (option_map (λ x. x.job)) c.op-job.ensures in
    (plan_lanes c.args.self.now c.plan.ensures.read).job_exists c.args.op c.op-job.result.job o
