-- Which texts refuse a script or a plan, and how long an input may be. This project's own.
use Rattle.std.specs.Prelude.{ℕ, ◌≡◌, List, ◌++◌, codes}
use Rattle.vq_model.specs.declared.plan.PlanFault.{PlanFault}
use Rattle.vq_model.specs.declared.plan.PlanFault.TheVariants.{Memory as NoMemoryToLower}
use Rattle.vq_model.specs.declared.plan.OrderFault.{OrderFault}
use Rattle.vq_model.specs.declared.plan.OrderFault.TheVariants.{Memory as NoMemoryToCheck}
use Rattle.vq_model.specs.OutputText.{line_feed}
use Rattle.vq_model.specs.Refusals.{at_line, plan_refusal, order_refusal}

-- the most bytes of an input
abbrev pub input_limit : ℕ
input_limit = 4194304

-- a text refuses a script for a fault of its lowering; want of memory refuses nothing
abbrev pub RefusesPlan : PlanFault → List ℕ → Type 0
RefusesPlan NoMemoryToLower text = ⊥
RefusesPlan fault text = text ≡ plan_refusal fault

-- a text refuses a plan for its first fault; want of memory refuses nothing
abbrev pub RefusesOrder : OrderFault → List ℕ → Type 0
RefusesOrder NoMemoryToCheck text = ⊥
RefusesOrder fault text = text ≡ order_refusal fault

-- an input without a trace
abbrev pub no_trace : List ℕ
no_trace = codes "error: no trace" ++ line_feed

-- a trace with a faulty line
abbrev pub trace_refusal : ℕ → List ℕ
trace_refusal n = at_line (codes "trace") n
