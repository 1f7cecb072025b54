use Rattle.vq_capture.specs.Reading.{read_capture}
use Rattle.vq_capture_laws.proofs.Cited.{read_rises}
use Rattle.vq_capture_memory.proofs.SlowMemoryVerdicts.{given, only}
use Rattle.vq_capture_memory.proofs.laws.slow_memory_verdict_decides.Goals as goal

pub returns-clause-given : goal.returns-clause-given
returns-clause-given c text = given (read_capture text) (read_rises text)

pub returns-clause-only : goal.returns-clause-only
returns-clause-only c text verdict v = only (read_capture text) (read_rises text) verdict v
