use Rattle.vq_order_laws.proofs.Cited.{plan_has_sure_order}
use Rattle.vq_plan_laws.proofs.Cited.{plan_well_formed}
use Rattle.vq_run_laws.proofs.OneResult.{one_result, progress_result}
use Rattle.vq_run_laws.proofs.laws.one_result.Goals as goal

pub returns-clause-ordered : goal.returns-clause-ordered
returns-clause-ordered c = one_result

pub returns-clause-progress : goal.returns-clause-progress
returns-clause-progress c = progress_result

pub returns-clause-lawful : goal.returns-clause-lawful
returns-clause-lawful c p i l = one_result p (plan_well_formed p i) (plan_has_sure_order p i l)

pub returns-clause-lawful_progress : goal.returns-clause-lawful_progress
returns-clause-lawful_progress c p i l =
    progress_result p (plan_well_formed p i) (plan_has_sure_order p i l)
