use Rattle.vq_plan_laws.proofs.HostPlans.{host_order}
use Rattle.vq_plan_laws.proofs.WellFormedPlans.{well_formed}
use Rattle.vq_plan_laws.proofs.laws.plans_are_well_formed.Goals as goal

pub returns-clause-plan : goal.returns-clause-plan
returns-clause-plan c s v = well_formed s v

pub returns-clause-host : goal.returns-clause-host
returns-clause-host c s v = host_order s v
