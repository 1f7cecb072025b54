-- The verdict with memory on a text, by the way that the check takes, and its text.
use Rattle.std.specs.Prelude.{ℕ, List, ◌++◌, codes, nat_lt, if◌then◌else◌, Option, Some, None}
use Rattle.std.specs.Fmt.{decimal}
use Rattle.vq_capture.specs.declared.capture.Verdict.{Verdict}
use Rattle.vq_capture.specs.declared.capture.Verdict.TheVariants.{Ordered, Race, Faulty}
use Rattle.vq_capture_judge.specs.Judging.{judged_text, verdict_text}
use Rattle.vq_capture_memory.specs.declared.verdict.MemoryVerdict.{MemoryVerdict}
use Rattle.vq_capture_memory.specs.declared.verdict.MemoryVerdict.TheVariants.{AllSeen, Racing, NotSeen, Refused}
use Rattle.vq_capture_memory_judge.specs.ToldSteps.{lacking_in}

-- what comes first of a verdict without memory, and of a step that lacks a write
abbrev pub combined : Verdict → Option (ℕ × ℕ) → MemoryVerdict
combined (Race first second) (Some u) = if nat_lt u.1 second then NotSeen u.0 u.1 else Racing first second
combined (Race first second) None = Racing first second
combined Ordered (Some u) = NotSeen u.0 u.1
combined Ordered None = AllSeen
combined (Faulty fault) (Some u) = NotSeen u.0 u.1
combined (Faulty fault) None = Refused fault

-- The verdict on a text.
abbrev pub memory_judged : List ℕ → MemoryVerdict
memory_judged text = combined (judged_text text) (lacking_in text)

-- The line that says a verdict.
abbrev pub memory_text : MemoryVerdict → List ℕ
memory_text AllSeen = verdict_text Ordered
memory_text (Racing first second) = verdict_text (Race first second)
memory_text (NotSeen first second) =
    (codes "unseen: lines " ++ decimal first) ++ (codes " and " ++ decimal second ++ codes "\n")
memory_text (Refused fault) = verdict_text (Faulty fault)
