-- What a judgement with memory did, in the words of the definition of captures. This project's own.
use Rattle.std.specs.Prelude.{ℕ, List, ◌≡◌, Option, IfSome}
use Rattle.vq_port.specs.Faults.{Rose}
use Rattle.vq_port.specs.Writing.{Appends, AppendsPart, Stays}
use Rattle.vq_capture_judge.specs.declared.status.JudgeStatus.{JudgeStatus}
use Rattle.vq_capture_judge.specs.declared.status.JudgeStatus.TheVariants.{Ordered, Refused, ReadFault, WriteFault}
use Rattle.vq_capture_judge.specs.declared.status.JudgeStatus.TheVariants.{Memory}
use Rattle.vq_capture_judge.specs.Endings.{Moment}
use Rattle.vq_capture_memory.specs.declared.verdict.MemoryVerdict.{MemoryVerdict}
use Rattle.vq_capture_memory.specs.MemoryVerdicts.{IsMemoryVerdict}
use Rattle.vq_capture_memory_judge.specs.MemoryJudging.{memory_text}
use Rattle.vq_capture_memory_judge.specs.MemoryEndings.{memory_status}

-- a verdict is that with memory on all that a source had
abbrev pub IsMemoryVerdictOn : Option (List ℕ) → MemoryVerdict → Type 0
IsMemoryVerdictOn left verdict = IfSome left (λ text. IsMemoryVerdict text verdict)

-- that verdict was written whole
abbrev pub WroteTheMemoryVerdict : JudgeStatus → Moment → Moment → Type 0
WroteTheMemoryVerdict status before now =
    (verdict : MemoryVerdict) × IsMemoryVerdictOn before.left verdict × (memory_status verdict ≡ status)
    × Appends (memory_text verdict) before.written now.written

-- What a judgement did, by the status that it ended with.
abbrev pub JudgesMemory : JudgeStatus → Moment → Moment → Type 0
JudgesMemory Ordered before now = WroteTheMemoryVerdict Ordered before now
JudgesMemory Refused before now = WroteTheMemoryVerdict Refused before now
JudgesMemory ReadFault before now = Rose before.read_faults now.read_faults × Stays before.written now.written
JudgesMemory WriteFault before now =
    Rose before.write_faults now.write_faults
    × ((verdict : MemoryVerdict) × IsMemoryVerdictOn before.left verdict
    × AppendsPart (memory_text verdict) before.written now.written)
JudgesMemory Memory before now = Stays before.written now.written
