use Rattle.vq_order_laws.proofs.Cited.{plan_has_sure_order}
use Rattle.vq_plan_laws.proofs.Cited.{plan_hosts, plan_well_formed}
use Rattle.vq_run_laws.proofs.RunFacts.{histories_are_runs}
use Rattle.vq_run_laws.proofs.laws.history_is_run.Goals as goal

pub returns-clause-ordered : goal.returns-clause-ordered
returns-clause-ordered c p w h o = histories_are_runs p w o h

pub returns-clause-lawful : goal.returns-clause-lawful
returns-clause-lawful c p i l =
    histories_are_runs p (plan_well_formed p i) (plan_has_sure_order p i l) (plan_hosts p i)
