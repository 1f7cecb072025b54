-- Faults and answers of a script, by the lines of the input from which the script's lines come. This project's own.
use Rattle.std.specs.Prelude.{ℕ, ◌-◌, ◌≡◌, ◌++◌, List, Option, Some, None, map}
use Rattle.std.specs.List.{slice_get}
use Rattle.std.specs.Option.{option_map_or}
use Rattle.vq_model.specs.declared.plan.AnswerLine.{AnswerLine}
use Rattle.vq_model.specs.declared.plan.OrderFault.{OrderFault}
use Rattle.vq_model.specs.declared.plan.OrderFault.TheVariants.{Unreachable, Unordered, FenceBusy, NotPending, Race}
use Rattle.vq_model.specs.declared.plan.OrderFault.TheVariants.{Memory as NoMemoryToCheck}
use Rattle.vq_model.specs.declared.plan.PlanFault.{PlanFault}
use Rattle.vq_model.specs.declared.plan.PlanFault.TheVariants.{NoSignal, SignaledTwice, FenceUsed}
use Rattle.vq_model.specs.declared.plan.PlanFault.TheVariants.{Memory as NoMemoryToLower}
use Rattle.vq_model.specs.Memory.{Memory}
use Rattle.vq_model.specs.Outputs.{IsOutput}
use Rattle.vq_model.specs.OutputText.{answer_text, buffers_text}
use Rattle.vq_model.specs.Plan.{Plan}
use Rattle.vq_run.specs.RunEnds.{IsEndOfRun}

-- The line of the input from which a line of the script comes: the same one, or the one of a list, counted from 1.
abbrev pub origin : Option (List ℕ) → ℕ → ℕ
origin None n = n
origin (Some lines) n = option_map_or (λ line. line) (slice_get lines (n - 1)) 0

abbrev pub plan_fault_origin : Option (List ℕ) → PlanFault → PlanFault
plan_fault_origin from (NoSignal n) = NoSignal (origin from n)
plan_fault_origin from (SignaledTwice n) = SignaledTwice (origin from n)
plan_fault_origin from (FenceUsed n) = FenceUsed (origin from n)
plan_fault_origin from NoMemoryToLower = NoMemoryToLower

abbrev pub order_fault_origin : Option (List ℕ) → OrderFault → OrderFault
order_fault_origin from (Unreachable n) = Unreachable (origin from n)
order_fault_origin from (Unordered a b) = Unordered (origin from a) (origin from b)
order_fault_origin from (FenceBusy n) = FenceBusy (origin from n)
order_fault_origin from (NotPending n) = NotPending (origin from n)
order_fault_origin from (Race a b) = Race (origin from a) (origin from b)
order_fault_origin from NoMemoryToCheck = NoMemoryToCheck

abbrev pub answer_origin : Option (List ℕ) → AnswerLine → AnswerLine
answer_origin from x = record x { line = origin from x.line }

-- An output of a plan that a finished run of its machine gives, whose answers have the lines of the input from which
-- theirs come.
pub record IsOutputFrom (p : Plan) (from : Option (List ℕ)) (text : List ℕ) : Type 0 where
  pub answers : List AnswerLine
  pub bytes : Memory
  pub output : IsOutput p (answer_text answers ++ buffers_text p.script.buffers bytes)
  pub ended : IsEndOfRun p answers bytes
  pub spelled : text ≡ answer_text (map (answer_origin from) answers) ++ buffers_text p.script.buffers bytes
