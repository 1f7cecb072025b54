-- The verdict on a text: that of the first line which closes a race or is faulty. A line says nothing of the lines
-- above it, so what is read above the first faulty line decides.
use Rattle.std.specs.Prelude.{ℕ, List, ◌≡◌, Some, None}
use Rattle.vq_capture.specs.declared.capture.Step.{Step}
use Rattle.vq_capture.specs.declared.capture.Fault.{Fault}
use Rattle.vq_capture.specs.declared.capture.Verdict.{Verdict}
use Rattle.vq_capture.specs.declared.capture.Verdict.TheVariants.{Ordered, Race, Faulty}
use Rattle.vq_capture.specs.Reading.{Read, read_capture}
use Rattle.vq_capture.specs.Races.{AreOrdered, IsNamedRace}

-- what is said of a capture that was read
pub data IsVerdictOf (read : Read) : Verdict → Type 0 where
  NoneRace : AreOrdered read.steps → read.fault ≡ None → IsVerdictOf read Ordered
  TwoRace : (a b : Step) → IsNamedRace read.steps a b → IsVerdictOf read (Race a.line b.line)
  FirstFault : (fault : Fault) → AreOrdered read.steps → read.fault ≡ Some fault → IsVerdictOf read (Faulty fault)

-- Whether a verdict is that on a text.
abbrev pub IsVerdict : List ℕ → Verdict → Type 0
IsVerdict text verdict = IsVerdictOf (read_capture text) verdict
