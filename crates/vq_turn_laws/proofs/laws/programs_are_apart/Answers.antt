use Rattle.vq_plan_laws.proofs.Cited.{plan_well_formed}
use Rattle.vq_turn_laws.proofs.Apart.{program_apart, programs_apart}
use Rattle.vq_turn_laws.proofs.laws.programs_are_apart.Goals as goal

pub returns-clause-own : goal.returns-clause-own
returns-clause-own c p i a = program_apart p (plan_well_formed p i) a

pub returns-clause-others : goal.returns-clause-others
returns-clause-others c p i = programs_apart p (plan_well_formed p i)
