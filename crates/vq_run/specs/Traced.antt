-- The trace that follows a script: what is read of it, and how it is answered. This project's own.
use Rattle.std.specs.Prelude.{ℕ, ◌≡◌, List, ◌++◌, Ok, Err, codes, Result, MatchBool, drop}
use Rattle.std.specs.Fmt.{decimal}
use Rattle.vq_model.specs.Plan.{Plan}
use Rattle.vq_model.specs.OutputText.{line_feed}
use Rattle.vq_given.specs.declared.given.Cut.{Cut}
use Rattle.vq_given.specs.declared.given.GivenTrace.{GivenTrace}
use Rattle.vq_given.specs.Cutting.{IsCut}
use Rattle.vq_given.specs.Reading.{read_trace}
use Rattle.vq_audit.specs.declared.verdict.Verdict.{Verdict}
use Rattle.vq_audit.specs.declared.verdict.Verdict.TheVariants.{Lawful as LawfulTrace, Broken}
use Rattle.vq_audit.specs.Audits.{IfLawful, KeepLaws}
use Rattle.vq_audit.specs.Verdicts.{IsVerdict, made_events}
use Rattle.vq_messages.specs.Refused.{trace_refusal}
use Rattle.vq_run.specs.Tasks.{row_of}
use Rattle.vq_words.specs.declared.task.Task.{Task}
use Rattle.vq_run.specs.declared.status.Status.{Status}
use Rattle.vq_run.specs.declared.status.Status.TheVariants.{Done, Refused}

-- What is read, for a plan, of the trace behind the line that cuts an input: the trace, or its first faulty line.
pub record IsTraceRead (input : List ℕ) (p : Plan) (found : Result GivenTrace ℕ) : Type 0 where
  pub cut : Cut
  pub is_cut : IsCut input cut
  pub read : read_trace p cut.first (drop cut.trace_start input) ≡ found

-- where a trace follows the script, it can be read for a plan
abbrev pub HasReadableTrace : Task → List ℕ → Plan → Type 0
HasReadableTrace task input p =
    MatchBool (row_of task).reads_trace ((given : GivenTrace) × IsTraceRead input p (Ok given)) (Unit {0})

-- what is written of a lawful script that is only checked
abbrev pub is_lawful_text : List ℕ
is_lawful_text = codes "lawful" ++ line_feed

-- what is written of a trace that was judged
abbrev pub verdict_text : Verdict → List ℕ
verdict_text LawfulTrace = is_lawful_text
verdict_text (Broken line) = codes "broken: line " ++ decimal line ++ line_feed

-- The verdict on the trace that follows a script. The events of a lawful one are a run of the plan, without those that
-- show nothing of the machine, and keep the point law and the pending law.
pub record IsAudited (input : List ℕ) (p : Plan) (text : List ℕ) : Type 0 where
  pub given : GivenTrace
  pub read : IsTraceRead input p (Ok given)
  pub verdict : Verdict
  pub right : IsVerdict p given verdict
  pub laws : IfLawful verdict (KeepLaws p (made_events given.events))
  pub spelled : text ≡ verdict_text verdict

-- How the trace of an input is answered: by the verdict on it, or by the refusal of its first faulty line.
abbrev pub AnswersTrace : List ℕ → Plan → Status → List ℕ → Type 0
AnswersTrace input p Done text = IsAudited input p text
AnswersTrace input p Refused text = (n : ℕ) × IsTraceRead input p (Err n) × (text ≡ trace_refusal n)
AnswersTrace input p other text = ⊥
