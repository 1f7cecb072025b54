use Rattle.vq_plan_laws.proofs.PlansKept.{plan_lanes, plan_semaphores, plan_lines}
use Rattle.vq_plan_laws.proofs.laws.plans_are_in_order.Goals as goal

pub returns-clause-lanes : goal.returns-clause-lanes
returns-clause-lanes c = plan_lanes

pub returns-clause-semaphores : goal.returns-clause-semaphores
returns-clause-semaphores c = plan_semaphores

pub returns-clause-lines : goal.returns-clause-lines
returns-clause-lines c = plan_lines
