-- The verdict on a text, where memory is asked for: that of the first line at which a race or an unseen write ends, or
-- which is faulty. At one line a race is named before an unseen write.
use Rattle.std.specs.Prelude.{ℕ, List, ◌≡◌, ◌<◌, ◌≤◌, Some, None}
use Rattle.vq_capture.specs.declared.capture.Step.{Step}
use Rattle.vq_capture.specs.declared.capture.Fault.{Fault}
use Rattle.vq_capture.specs.Reading.{Read, read_capture}
use Rattle.vq_capture.specs.Races.{AreOrdered, IsRace, IsNamedRace}
use Rattle.vq_capture_memory.specs.declared.verdict.MemoryVerdict.{MemoryVerdict}
use Rattle.vq_capture_memory.specs.declared.verdict.MemoryVerdict.TheVariants.{AllSeen, Racing, NotSeen, Refused}
use Rattle.vq_capture_memory.specs.UnseenWrites.{AreSeen, IsUnseen, IsNamedUnseen}

-- what is said of a capture that was read
pub data IsMemoryVerdictOf (read : Read) : MemoryVerdict → Type 0 where
  NoneUnseen : AreOrdered read.steps → AreSeen read.steps → read.fault ≡ None → IsMemoryVerdictOf read AllSeen
  FirstRace : (a b : Step) → IsNamedRace read.steps a b →
      ((c d : Step) → IsUnseen read.steps c d → b.line ≤ d.line) → IsMemoryVerdictOf read (Racing a.line b.line)
  FirstUnseen : (a b : Step) → IsNamedUnseen read.steps a b →
      ((c d : Step) → IsRace read.steps c d → b.line < d.line) → IsMemoryVerdictOf read (NotSeen a.line b.line)
  FaultFirst : (fault : Fault) → AreOrdered read.steps → AreSeen read.steps → read.fault ≡ Some fault →
      IsMemoryVerdictOf read (Refused fault)

-- Whether a verdict is that on a text.
abbrev pub IsMemoryVerdict : List ℕ → MemoryVerdict → Type 0
IsMemoryVerdict text verdict = IsMemoryVerdictOf (read_capture text) verdict
