use Rattle.vq_order_laws.proofs.Cited.{plan_has_sure_order}
use Rattle.vq_plan_laws.proofs.Cited.{plan_well_formed}
use Rattle.vq_run_laws.proofs.RunFacts.{slow_is_run}
use Rattle.vq_run_laws.proofs.laws.slow_run_is_a_run.Goals as goal

pub returns-clause-ordered : goal.returns-clause-ordered
returns-clause-ordered c = slow_is_run

pub returns-clause-lawful : goal.returns-clause-lawful
returns-clause-lawful c p i l = slow_is_run p (plan_well_formed p i) (plan_has_sure_order p i l)
