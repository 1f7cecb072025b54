-- What a judgement with memory wrote, and with which status it ends. This project's own.
use Rattle.std.specs.Prelude.{ℕ, List, ◌≡◌, Option, IfSome}
use Rattle.vq_port.specs.Faults.{Rose}
use Rattle.vq_port.specs.Writing.{Appends, AppendsPart, Stays}
use Rattle.vq_capture_judge.specs.declared.status.JudgeStatus.{JudgeStatus}
use Rattle.vq_capture_judge.specs.declared.status.JudgeStatus.TheVariants.{Ordered, Refused, ReadFault, WriteFault}
use Rattle.vq_capture_judge.specs.declared.status.JudgeStatus.TheVariants.{Memory}
use Rattle.vq_capture_judge.specs.Endings.{Moment}
use Rattle.vq_capture_memory.specs.declared.verdict.MemoryVerdict.{MemoryVerdict}
use Rattle.vq_capture_memory.specs.declared.verdict.MemoryVerdict.TheVariants.{AllSeen, Racing, NotSeen}
use Rattle.vq_capture_memory.specs.declared.verdict.MemoryVerdict.TheVariants.{Refused as IsRefused}
use Rattle.vq_capture_memory_judge.specs.MemoryJudging.{memory_judged, memory_text}

-- a verdict is that on all that a source had
abbrev pub MemorySaysOf : Option (List ℕ) → MemoryVerdict → Type 0
MemorySaysOf start verdict = IfSome start (λ all. memory_judged all ≡ verdict)

-- how the judgement ends that says a verdict
abbrev pub memory_status : MemoryVerdict → JudgeStatus
memory_status AllSeen = Ordered
memory_status (Racing first second) = Refused
memory_status (NotSeen first second) = Refused
memory_status (IsRefused fault) = Refused

-- a verdict was written whole
abbrev pub WroteMemory : JudgeStatus → Moment → Moment → Type 0
WroteMemory status before now =
    (verdict : MemoryVerdict) × MemorySaysOf before.left verdict × (memory_status verdict ≡ status)
    × Appends (memory_text verdict) before.written now.written

-- What a judgement did, by the status that it ended with.
abbrev pub JudgesMemoryAs : JudgeStatus → Moment → Moment → Type 0
JudgesMemoryAs Ordered before now = WroteMemory Ordered before now
JudgesMemoryAs Refused before now = WroteMemory Refused before now
JudgesMemoryAs ReadFault before now = Rose before.read_faults now.read_faults × Stays before.written now.written
JudgesMemoryAs WriteFault before now =
    Rose before.write_faults now.write_faults
    × ((verdict : MemoryVerdict) × MemorySaysOf before.left verdict
    × AppendsPart (memory_text verdict) before.written now.written)
JudgesMemoryAs Memory before now = Stays before.written now.written

-- What saying a verdict did, by the status that it ended with.
pub data SaysMemory (verdict : MemoryVerdict) (before : Option (List ℕ)) (faults_before : ℕ) (now : Option (List ℕ))
    (faults_now : ℕ) : JudgeStatus → Type 0 where
  memory_said : Appends (memory_text verdict) before now →
      SaysMemory verdict before faults_before now faults_now (memory_status verdict)
  memory_part : Rose faults_before faults_now → AppendsPart (memory_text verdict) before now →
      SaysMemory verdict before faults_before now faults_now WriteFault
  memory_unsaid : Stays before now → SaysMemory verdict before faults_before now faults_now Memory
