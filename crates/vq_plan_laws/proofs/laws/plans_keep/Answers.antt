use Rattle.vq_plan_laws.proofs.PlansKept.{plan_hosts}
use Rattle.vq_plan_laws.proofs.PlansKept.{plan_well_formed}
use Rattle.vq_plan_laws.proofs.laws.plans_keep.Goals as goal

pub returns-clause-plan : goal.returns-clause-plan
returns-clause-plan c = plan_well_formed

pub returns-clause-host : goal.returns-clause-host
returns-clause-host c = plan_hosts
