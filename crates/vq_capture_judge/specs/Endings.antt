-- What a judgement wrote, and with which status it ends. This project's own.
use Rattle.std.specs.Prelude.{ℕ, List, ◌≡◌, Option}
use Rattle.vq_port.specs.Faults.{Rose}
use Rattle.vq_port.specs.Writing.{Appends, AppendsPart, Stays}
use Rattle.vq_capture.specs.declared.capture.Verdict.{Verdict}
use Rattle.vq_capture.specs.declared.capture.Verdict.TheVariants.{Ordered as IsInOrder, Race, Faulty}
use Rattle.vq_capture_judge.specs.declared.status.JudgeStatus.{JudgeStatus}
use Rattle.vq_capture_judge.specs.declared.status.JudgeStatus.TheVariants.{Ordered, Refused, ReadFault, WriteFault}
use Rattle.vq_capture_judge.specs.declared.status.JudgeStatus.TheVariants.{Memory}
use Rattle.vq_capture_judge.specs.Judging.{verdict_text}
use Rattle.vq_capture_judge.specs.Feeding.{SaysOf}

-- the exit status of each ending
abbrev pub status_number : JudgeStatus → ℕ
status_number Ordered = 0
status_number Refused = 2
status_number ReadFault = 3
status_number WriteFault = 4
status_number Memory = 5

-- how the judgement ends that says a verdict
abbrev pub status_of : Verdict → JudgeStatus
status_of IsInOrder = Ordered
status_of (Race first second) = Refused
status_of (Faulty fault) = Refused

-- A source and a sink at one moment: the bytes that are left, those that were written, and the faults of both.
pub record Moment : Type 0 where
  pub left : Option (List ℕ)
  pub read_faults : ℕ
  pub written : Option (List ℕ)
  pub write_faults : ℕ

-- a verdict was written whole
abbrev pub WroteVerdict : JudgeStatus → Moment → Moment → Type 0
WroteVerdict status before now =
    (verdict : Verdict) × SaysOf before.left verdict × (status_of verdict ≡ status)
    × Appends (verdict_text verdict) before.written now.written

-- What a judgement did, by the status that it ended with.
abbrev pub JudgesAs : JudgeStatus → Moment → Moment → Type 0
JudgesAs Ordered before now = WroteVerdict Ordered before now
JudgesAs Refused before now = WroteVerdict Refused before now
JudgesAs ReadFault before now = Rose before.read_faults now.read_faults × Stays before.written now.written
JudgesAs WriteFault before now =
    Rose before.write_faults now.write_faults
    × ((verdict : Verdict) × SaysOf before.left verdict × AppendsPart (verdict_text verdict) before.written now.written)
JudgesAs Memory before now = Stays before.written now.written

-- What saying a verdict did, by the status that it ended with.
pub data Says (verdict : Verdict) (before : Option (List ℕ)) (faults_before : ℕ) (now : Option (List ℕ))
    (faults_now : ℕ) : JudgeStatus → Type 0 where
  said_all : Appends (verdict_text verdict) before now →
      Says verdict before faults_before now faults_now (status_of verdict)
  said_part : Rose faults_before faults_now → AppendsPart (verdict_text verdict) before now →
      Says verdict before faults_before now faults_now WriteFault
  said_nothing : Stays before now → Says verdict before faults_before now faults_now Memory
