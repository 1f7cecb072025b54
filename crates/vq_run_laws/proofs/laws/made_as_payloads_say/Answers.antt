use Rattle.vq_order_laws.proofs.Cited.{plan_has_sure_order}
use Rattle.vq_plan_laws.proofs.Cited.{plan_well_formed}
use Rattle.vq_run_laws.proofs.RunFacts.{makes_as_payloads_say}
use Rattle.vq_run_laws.proofs.laws.made_as_payloads_say.Goals as goal

pub returns-clause-ordered : goal.returns-clause-ordered
returns-clause-ordered c = makes_as_payloads_say

pub returns-clause-lawful : goal.returns-clause-lawful
returns-clause-lawful c p i l = makes_as_payloads_say p (plan_well_formed p i) (plan_has_sure_order p i l)
