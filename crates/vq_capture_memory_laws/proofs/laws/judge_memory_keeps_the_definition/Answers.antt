use Rattle.vq_capture_memory_laws.proofs.SaidMemory.{memory_kept}
use Rattle.vq_capture_memory_laws.proofs.laws.judge_memory_keeps_the_definition.Goals as goal

pub returns : goal.returns
returns c status before now j = memory_kept status before now j
