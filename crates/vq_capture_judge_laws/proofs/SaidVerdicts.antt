-- What a judgement wrote is a verdict by the definition.
use Rattle.std.proofs.Common.{ℕ, List, subst, Option, Some, None}
use Rattle.vq_capture.specs.declared.capture.Verdict.{Verdict}
use Rattle.vq_capture.specs.Verdicts.{IsVerdict}
use Rattle.vq_capture_judge.specs.declared.status.JudgeStatus.{JudgeStatus}
use Rattle.vq_capture_judge.specs.declared.status.JudgeStatus.TheVariants.{Ordered, Refused, ReadFault, WriteFault, Memory}
use Rattle.vq_capture_judge.specs.Feeding.{SaysOf}
use Rattle.vq_capture_judge.specs.Endings.{Moment, WroteVerdict, JudgesAs}
use Rattle.vq_capture_judge_laws.specs.Judgements.{IsVerdictOn, WroteTheVerdict, JudgesByDefinition}
use Rattle.vq_capture_judge_laws.proofs.JudgedLines.{judges}

said : (left : Option (List ℕ)) (verdict : Verdict) → SaysOf left verdict → IsVerdictOn left verdict
said None verdict s = s
said (Some text) verdict s = subst (λ (v : Verdict). IsVerdict text v) s (judges text)

wrote : (status : JudgeStatus) (before now : Moment) → WroteVerdict status before now → WroteTheVerdict status before now
wrote status before now w = (w.0, said before.left w.0 w.1, w.2, w.3)

pub kept : (status : JudgeStatus) (before now : Moment) → JudgesAs status before now → JudgesByDefinition status before now
kept Ordered before now w = wrote Ordered before now w
kept Refused before now w = wrote Refused before now w
kept ReadFault before now w = w
kept WriteFault before now w = (w.0, (w.1.0, said before.left w.1.0 w.1.1, w.1.2))
kept Memory before now w = w
