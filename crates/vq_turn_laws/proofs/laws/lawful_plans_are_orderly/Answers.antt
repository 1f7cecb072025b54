use Rattle.vq_turn_laws.proofs.Orderly.{plan_orderly}
use Rattle.vq_turn_laws.proofs.laws.lawful_plans_are_orderly.Goals as goal

pub returns : goal.returns
returns c = plan_orderly
