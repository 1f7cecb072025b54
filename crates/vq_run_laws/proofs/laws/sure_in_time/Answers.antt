use Rattle.vq_order_laws.proofs.Cited.{plan_has_sure_order}
use Rattle.vq_plan_laws.proofs.Cited.{plan_well_formed}
use Rattle.vq_run_laws.proofs.RunFacts.{is_sure_in_time}
use Rattle.vq_run_laws.proofs.laws.sure_in_time.Goals as goal

pub returns-clause-ordered : goal.returns-clause-ordered
returns-clause-ordered c = is_sure_in_time

pub returns-clause-lawful : goal.returns-clause-lawful
returns-clause-lawful c p i l = is_sure_in_time p (plan_well_formed p i) (plan_has_sure_order p i l)
