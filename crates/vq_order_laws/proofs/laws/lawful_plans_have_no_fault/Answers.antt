use Rattle.vq_order_laws.proofs.LawfulPlans.{lawful_without_fault}
use Rattle.vq_order_laws.proofs.laws.lawful_plans_have_no_fault.Goals as goal

pub returns : goal.returns
returns c = lawful_without_fault
