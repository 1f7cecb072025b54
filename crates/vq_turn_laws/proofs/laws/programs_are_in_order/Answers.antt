use Rattle.vq_plan_laws.proofs.Cited.{plan_hosts, plan_well_formed}
use Rattle.vq_turn_laws.proofs.Orderly.{plan_parts}
use Rattle.vq_turn_laws.proofs.ProgramsOrder.{in_order}
use Rattle.vq_turn_laws.proofs.laws.programs_are_in_order.Goals as goal

pub returns : goal.returns
returns c p i a = in_order p (plan_well_formed p i) (plan_hosts p i) (plan_parts p i) a
