use Rattle.std.proofs.Common.{ap}
use Rattle.std.specs.Option.{option_map}
use Rattle.vq_plan_laws.proofs.Cited.{plan_lanes}
use Rattle.vq_order.proofs.unordered.are_apart.Goals as goal

pub is_sure-requires-clause-second : goal.is_sure-requires-clause-second
is_sure-requires-clause-second c =
    (plan_lanes c.args.order.now c.op-signal.ensures.complete.plan).job_exists c.args.second c.op-signal.result.job (ap (option_map (λ x. x.job)) c.op-signal.ensures.value)
