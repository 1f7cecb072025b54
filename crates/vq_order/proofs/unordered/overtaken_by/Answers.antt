use Rattle.std.proofs.Common.{ap}
use Rattle.std.specs.Option.{option_map}
use Rattle.vq_plan_laws.proofs.Cited.{plan_lanes}
use Rattle.vq_order.proofs.unordered.overtaken_by.Goals as goal

pub before-requires-clause-second : goal.before-requires-clause-second
before-requires-clause-second c =
    (plan_lanes c.args.order.now c.op-signal.ensures.complete.plan).job_exists c.args.op c.op-signal.result.job (ap (option_map (λ x. x.job)) c.op-signal.ensures.value)
