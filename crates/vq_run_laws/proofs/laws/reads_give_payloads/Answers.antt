use Rattle.vq_order_laws.proofs.Cited.{plan_has_sure_order}
use Rattle.vq_plan_laws.proofs.Cited.{plan_well_formed}
use Rattle.vq_run_laws.proofs.RunFacts.{reads_payloads}
use Rattle.vq_run_laws.proofs.laws.reads_give_payloads.Goals as goal

pub returns-clause-ordered : goal.returns-clause-ordered
returns-clause-ordered c = reads_payloads

pub returns-clause-lawful : goal.returns-clause-lawful
returns-clause-lawful c p i l = reads_payloads p (plan_well_formed p i) (plan_has_sure_order p i l)
