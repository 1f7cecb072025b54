use Rattle.std.proofs.Common.{option_map, ap}
use Rattle.vq_model.specs.declared.plan.Op.{Op}
use Rattle.vq_plan_laws.proofs.Cited.{plan_lanes}
use Rattle.vq_timeline.proofs.opening.is_of_host.Goals as goal

pub job-requires : goal.job-requires
job-requires c =
    (plan_lanes c.args.plan.now c.requires.plan).job_exists c.args.op c.op.result.job
    (ap (option_map (λ (o : Op). o.job)) c.op.ensures)
