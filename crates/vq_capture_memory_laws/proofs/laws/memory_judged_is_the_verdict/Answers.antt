use Rattle.vq_capture_memory_laws.proofs.MemoryVerdictsSaid.{memory_judges, memory_only}
use Rattle.vq_capture_memory_laws.proofs.laws.memory_judged_is_the_verdict.Goals as goal

pub returns-clause-given : goal.returns-clause-given
returns-clause-given c text = memory_judges text

pub returns-clause-only : goal.returns-clause-only
returns-clause-only c text verdict v = memory_only text verdict v
