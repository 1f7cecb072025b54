use Rattle.vq_reading_laws.proofs.FirstFaults.{first_fault, only_fault, without_fault, reads_without_fault}
use Rattle.vq_reading_laws.proofs.laws.reading_gives_the_first_fault.Goals as goal

pub returns-clause-fault : goal.returns-clause-fault
returns-clause-fault c form before first lines n kind = (
  first_fault form before first lines n kind,
  only_fault form before first lines n kind,
)

pub returns-clause-none : goal.returns-clause-none
returns-clause-none c form before first lines statements = (
  without_fault form before first lines statements,
  λ h. reads_without_fault form before first lines statements h.0 h.1,
)
