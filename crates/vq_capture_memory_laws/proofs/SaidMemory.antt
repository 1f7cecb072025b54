-- What a judgement with memory wrote is a verdict by the definition.
use Rattle.std.proofs.Common.{ℕ, List, subst, Option, Some, None}
use Rattle.vq_capture_judge.specs.declared.status.JudgeStatus.{JudgeStatus}
use Rattle.vq_capture_judge.specs.declared.status.JudgeStatus.TheVariants.{Ordered, Refused, ReadFault, WriteFault, Memory}
use Rattle.vq_capture_judge.specs.Endings.{Moment}
use Rattle.vq_capture_memory.specs.declared.verdict.MemoryVerdict.{MemoryVerdict}
use Rattle.vq_capture_memory.specs.MemoryVerdicts.{IsMemoryVerdict}
use Rattle.vq_capture_memory_judge.specs.MemoryEndings.{MemorySaysOf, WroteMemory, JudgesMemoryAs}
use Rattle.vq_capture_memory_laws.specs.MemoryJudgements.{IsMemoryVerdictOn, WroteTheMemoryVerdict, JudgesMemory}
use Rattle.vq_capture_memory_laws.proofs.MemoryVerdictsSaid.{memory_judges}

said : (left : Option (List ℕ)) (verdict : MemoryVerdict) → MemorySaysOf left verdict → IsMemoryVerdictOn left verdict
said None verdict s = s
said (Some text) verdict s = subst (λ (v : MemoryVerdict). IsMemoryVerdict text v) s (memory_judges text)

wrote : (status : JudgeStatus) (before now : Moment) → WroteMemory status before now → WroteTheMemoryVerdict status before now
wrote status before now w = (w.0, said before.left w.0 w.1, w.2, w.3)

pub memory_kept : (status : JudgeStatus) (before now : Moment) → JudgesMemoryAs status before now → JudgesMemory status before now
memory_kept Ordered before now w = wrote Ordered before now w
memory_kept Refused before now w = wrote Refused before now w
memory_kept ReadFault before now w = w
memory_kept WriteFault before now w = (w.0, (w.1.0, said before.left w.1.0 w.1.1, w.1.2))
memory_kept Memory before now w = w
