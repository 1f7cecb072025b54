use Rattle.vq_plan_laws.proofs.Cited.{plan_well_formed}
use Rattle.vq_order_laws.proofs.EdgesAgree.{edges_agree}
use Rattle.vq_order_laws.proofs.LawfulOrder.{plan_has_sure_order}
use Rattle.vq_order_laws.proofs.laws.edges_agree_with_the_slow_run.Goals as goal

pub returns-clause-ordered : goal.returns-clause-ordered
returns-clause-ordered c = edges_agree

pub returns-clause-lawful : goal.returns-clause-lawful
returns-clause-lawful c p i l = edges_agree p (plan_well_formed p i) (plan_has_sure_order p i l)
