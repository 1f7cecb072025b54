use Rattle.vq_order_laws.proofs.Cited.{plan_has_sure_order}
use Rattle.vq_plan_laws.proofs.Cited.{plan_hosts, plan_well_formed}
use Rattle.vq_output_laws.proofs.Outputs.{outputs_are_told}
use Rattle.vq_output_laws.proofs.PlanWaits.{plan_answers_waits}
use Rattle.vq_output_laws.proofs.laws.outputs_are_told_by_runs.Goals as goal

pub returns-clause-ordered : goal.returns-clause-ordered
returns-clause-ordered c = outputs_are_told

pub returns-clause-lawful : goal.returns-clause-lawful
returns-clause-lawful c p i l =
    outputs_are_told p (plan_well_formed p i) (plan_hosts p i) (plan_has_sure_order p i l) (plan_answers_waits p i)
