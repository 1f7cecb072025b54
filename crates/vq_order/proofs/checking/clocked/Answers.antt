use Rattle.vq_plan_laws.proofs.Cited.{plan_well_formed}
use Rattle.vq_order.proofs.UnreachedLaws.{none_left}
use Rattle.vq_order.proofs.checking.clocked.Goals as goal

pub new-requires-clause-complete : goal.new-requires-clause-complete
new-requires-clause-complete c =
    let plan = c.in_ok-run.ensures.plan in
    record { plan = plan; reachable = none_left c.args.plan (plan_well_formed c.args.plan plan) c.in_default.ensures }

pub returns : goal.returns
returns c =
    let plan = c.in_ok-run.ensures.plan in (
      c.in_ok-order.ensures,
      record { plan = plan; reachable = none_left c.args.plan (plan_well_formed c.args.plan plan) c.in_default.ensures },
    )
