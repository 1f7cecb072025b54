-- What a judgement with memory did, by what was said.
use Rattle.std.proofs.Common.{◌≡◌, ℕ, List, Option, refl}
use Rattle.vq_capture_judge.specs.declared.status.JudgeStatus.{JudgeStatus}
use Rattle.vq_capture_judge.specs.Endings.{Moment}
use Rattle.vq_capture_memory.specs.declared.verdict.MemoryVerdict.{MemoryVerdict}
use Rattle.vq_capture_memory.specs.declared.verdict.MemoryVerdict.TheVariants.{AllSeen, Racing, NotSeen, Refused}
use Rattle.vq_capture_memory_judge.specs.MemoryEndings.{MemorySaysOf, JudgesMemoryAs, SaysMemory, memory_said, memory_part, memory_unsaid}

pub memory_judges : (v : MemoryVerdict) (s : JudgeStatus) (before now : Moment) → MemorySaysOf before.left v → SaysMemory v before.written before.write_faults now.written now.write_faults s → JudgesMemoryAs s before now
memory_judges AllSeen s b n w (memory_said a) = (AllSeen, w, refl, a)
memory_judges (Racing i k) s b n w (memory_said a) = (Racing i k, w, refl, a)
memory_judges (NotSeen i k) s b n w (memory_said a) = (NotSeen i k, w, refl, a)
memory_judges (Refused f) s b n w (memory_said a) = (Refused f, w, refl, a)
memory_judges v s b n w (memory_part r a) = (r, (v, w, a))
memory_judges v s b n w (memory_unsaid a) = a
