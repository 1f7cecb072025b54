-- What a task may answer for an input. This project's own.
use Rattle.std.specs.Prelude.{ℕ, ◌≡◌, ◌<◌, ◌≤◌, List, length, Option, None, Err}
use Rattle.vq_model.specs.declared.statement.FaultKind.{FaultKind}
use Rattle.vq_model.specs.declared.script.Script.{Script}
use Rattle.vq_model.specs.declared.script.Turn.{Turn}
use Rattle.vq_model.specs.declared.plan.PlanFault.{PlanFault}
use Rattle.vq_model.specs.declared.plan.OrderFault.{OrderFault}
use Rattle.vq_model.specs.Plan.{Plan}
use Rattle.vq_model.specs.Lowering.{plan_of}
use Rattle.vq_model.specs.LoweringFaults.{lowering_fault, IsFirstLoweringFault}
use Rattle.vq_model.specs.Checks.{IsLawful, IsFirstPlanFault}
use Rattle.vq_model.specs.Canonical.{canonical_text}
use Rattle.vq_model.specs.Refusals.{too_long, line_refusal, plan_refusal, order_refusal}
use Rattle.vq_replay.specs.Rounds.{IsRoundsTrace}
use Rattle.vq_replay.specs.Traced.{IsTrace}
use Rattle.vq_messages.specs.Refused.{input_limit, no_trace, trace_refusal}
use Rattle.vq_run.specs.Origins.{IsOutputFrom, order_fault_origin, plan_fault_origin}
use Rattle.vq_run.specs.RunEnds.{IsRunText}
use Rattle.vq_run.specs.Tasks.{ReadsTrace, planned}
use Rattle.vq_words.specs.declared.task.Task.{Task}
use Rattle.vq_words.specs.declared.task.Task.TheVariants.{Run, Check, Replay, Generate, Rounds, Upgrade, Audit, Hosts}
use Rattle.vq_run.specs.declared.status.Status.{Status}
use Rattle.vq_run.specs.declared.status.Status.TheVariants.{Done, Refused}
use Rattle.vq_run.specs.Inputs.{IsScriptText, ReadsAs, HasFirstFault, LacksTrace}
use Rattle.vq_run.specs.Traced.{IsTraceRead, is_lawful_text, IsAudited}

-- the script as one of the second version
abbrev pub upgraded : Script → Script
upgraded s = record s { version = 2 }

-- What a task writes for an input with a lawful plan, the turns of a schedule, and the lines from which the script's
-- come: an output of the plan that a finished run gives, that it is lawful, the trace of the turns, that of rounds to
-- the end, the canonical text of the script as one of the second version, the verdict on the trace that follows the
-- script, or an output of the compiled plan that a finished run gives, with the lines of the input.
abbrev pub AnswersTask : Task → List ℕ → Plan → List Turn → Option (List ℕ) → List ℕ → Type 0
AnswersTask Run input p turns from text = IsRunText p text
AnswersTask Check input p turns from text = text ≡ is_lawful_text
AnswersTask Replay input p turns from text = IsTrace p turns text
AnswersTask (Generate rounds) input p turns from text = IsRunText p text
AnswersTask Rounds input p turns from text = IsRoundsTrace p text
AnswersTask Upgrade input p turns from text = text ≡ canonical_text (upgraded p.script)
AnswersTask Audit input p turns from text = IsAudited input p text
AnswersTask Hosts input p turns from text = IsOutputFrom p from text

-- A part of an input is read as a script that has a plan, with these lines, and the plan is lawful.
pub record HasLawfulPlan (task : Task) (input : List ℕ) (script : Script) (from : Option (List ℕ)) : Type 0 where
  pub text : List ℕ
  pub part : IsScriptText task input text
  pub reads : ReadsAs task text script from
  pub lowers : lowering_fault (planned task script) ≡ None
  pub lawful : IsLawful (plan_of (planned task script))

-- What a task may answer for an input, with the text that it writes.
pub data IsOutcome (task : Task) (input : List ℕ) : Status → List ℕ → Type 0 where
  -- the input is too long
  is_too_long : input_limit < length input → IsOutcome task input Refused too_long
  -- a trace was to follow the script, and there is none
  has_no_trace : length input ≤ input_limit → LacksTrace task input → IsOutcome task input Refused no_trace
  -- a line of the script is faulty: the first one of the text, by its first kind
  has_faulty_line : (text : List ℕ) (n : ℕ) (kind : FaultKind) → length input ≤ input_limit →
      IsScriptText task input text → HasFirstFault task text n kind →
      IsOutcome task input Refused (line_refusal n kind)
  -- the script that the text is read as has no plan
  has_no_plan : (text : List ℕ) (script : Script) (from : Option (List ℕ)) (fault : PlanFault) →
      length input ≤ input_limit → IsScriptText task input text → ReadsAs task text script from →
      IsFirstLoweringFault (planned task script) fault →
      IsOutcome task input Refused (plan_refusal (plan_fault_origin from fault))
  -- its plan is not lawful
  is_unlawful : (text : List ℕ) (script : Script) (from : Option (List ℕ)) (fault : OrderFault) →
      length input ≤ input_limit → IsScriptText task input text → ReadsAs task text script from →
      lowering_fault (planned task script) ≡ None → IsFirstPlanFault (plan_of (planned task script)) fault →
      IsOutcome task input Refused (order_refusal (order_fault_origin from fault))
  -- the script is lawful, and a line of the trace is faulty: the first one
  has_faulty_trace : (script : Script) (from : Option (List ℕ)) (n : ℕ) → length input ≤ input_limit →
      HasLawfulPlan task input script from → ReadsTrace task →
      IsTraceRead input (plan_of (planned task script)) (Err n) → IsOutcome task input Refused (trace_refusal n)
  -- the script is lawful, and the text answers the task
  gives_answer : (script : Script) (from : Option (List ℕ)) (text : List ℕ) → length input ≤ input_limit →
      HasLawfulPlan task input script from →
      AnswersTask task input (plan_of (planned task script)) script.turns from text → IsOutcome task input Done text
