use Rattle.std.proofs.Common.{ap}
use Rattle.std.specs.Option.{option_map}
use Rattle.vq_plan_laws.proofs.Cited.{plan_lanes}
use Rattle.vq_order.proofs.pending.may_come_late.Goals as goal

pub is_made_before-requires : goal.is_made_before-requires
is_made_before-requires c =
    record { exists = (plan_lanes c.args.order.now c.op.ensures.complete.plan).job_exists c.args.op c.op.result.job (ap (option_map (λ x. x.job)) c.op.ensures.value) }
