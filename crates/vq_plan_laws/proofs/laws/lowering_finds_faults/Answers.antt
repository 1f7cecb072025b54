use Rattle.vq_plan_laws.proofs.FaultLaws.{fault_found, no_fault_found}
use Rattle.vq_plan_laws.proofs.laws.lowering_finds_faults.Goals as goal

pub returns-clause-found : goal.returns-clause-found
returns-clause-found c s n k h = fault_found s n k h

pub returns-clause-none : goal.returns-clause-none
returns-clause-none c s h = no_fault_found s h
