-- What a judgement did, in the words of the definition of captures. This project's own.
use Rattle.std.specs.Prelude.{ℕ, List, ◌≡◌, Option, IfSome}
use Rattle.vq_port.specs.Faults.{Rose}
use Rattle.vq_port.specs.Writing.{Appends, AppendsPart, Stays}
use Rattle.vq_capture.specs.declared.capture.Verdict.{Verdict}
use Rattle.vq_capture.specs.Verdicts.{IsVerdict}
use Rattle.vq_capture_judge.specs.declared.status.JudgeStatus.{JudgeStatus}
use Rattle.vq_capture_judge.specs.declared.status.JudgeStatus.TheVariants.{Ordered, Refused, ReadFault, WriteFault}
use Rattle.vq_capture_judge.specs.declared.status.JudgeStatus.TheVariants.{Memory}
use Rattle.vq_capture_judge.specs.Judging.{verdict_text}
use Rattle.vq_capture_judge.specs.Endings.{Moment, status_of}

-- a verdict is that on all that a source had
abbrev pub IsVerdictOn : Option (List ℕ) → Verdict → Type 0
IsVerdictOn left verdict = IfSome left (λ text. IsVerdict text verdict)

-- that verdict was written whole
abbrev pub WroteTheVerdict : JudgeStatus → Moment → Moment → Type 0
WroteTheVerdict status before now =
    (verdict : Verdict) × IsVerdictOn before.left verdict × (status_of verdict ≡ status)
    × Appends (verdict_text verdict) before.written now.written

-- What a judgement did, by the status that it ended with.
abbrev pub JudgesByDefinition : JudgeStatus → Moment → Moment → Type 0
JudgesByDefinition Ordered before now = WroteTheVerdict Ordered before now
JudgesByDefinition Refused before now = WroteTheVerdict Refused before now
JudgesByDefinition ReadFault before now =
    Rose before.read_faults now.read_faults × Stays before.written now.written
JudgesByDefinition WriteFault before now =
    Rose before.write_faults now.write_faults
    × ((verdict : Verdict) × IsVerdictOn before.left verdict
    × AppendsPart (verdict_text verdict) before.written now.written)
JudgesByDefinition Memory before now = Stays before.written now.written
