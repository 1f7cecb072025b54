-- What crosses to C of an ending: a code with two lines. This project's own.
use Rattle.std.specs.Prelude.{ℕ, ◌≡◌, List}
use Rattle.vq_model.specs.declared.plan.PlanFault.{PlanFault}
use Rattle.vq_model.specs.declared.plan.PlanFault.TheVariants.{NoSignal, SignaledTwice, FenceUsed}
use Rattle.vq_model.specs.declared.plan.PlanFault.TheVariants.{Memory as NoMemoryToLower}
use Rattle.vq_model.specs.declared.plan.OrderFault.{OrderFault}
use Rattle.vq_model.specs.declared.plan.OrderFault.TheVariants.{Unreachable, Unordered, FenceBusy, NotPending}
use Rattle.vq_model.specs.declared.plan.OrderFault.TheVariants.{Race, Memory as NoMemoryToCheck}
use Rattle.vq_face.specs.declared.ending.Ending.{Ending}
use Rattle.vq_face.specs.declared.ending.Ending.TheVariants.{Lawful, NoMemory, TooLong, FaultyLine, NoPlan, Unlawful}
use Rattle.vq_face.specs.declared.verdict.Verdict.{Verdict}
use Rattle.vq_face.specs.Codes.{code_of}
use Rattle.vq_face.specs.Endings.{IsEnding}

-- The lines that an ending speaks of; 0 stands for none.

abbrev pub plan_lines : PlanFault → ℕ × ℕ
plan_lines (NoSignal n) = (n, 0)
plan_lines (SignaledTwice n) = (n, 0)
plan_lines (FenceUsed n) = (n, 0)
plan_lines NoMemoryToLower = (0, 0)

abbrev pub order_lines : OrderFault → ℕ × ℕ
order_lines (Unreachable n) = (n, 0)
order_lines (Unordered a b) = (a, b)
order_lines (FenceBusy n) = (n, 0)
order_lines (NotPending n) = (n, 0)
order_lines (Race a b) = (a, b)
order_lines NoMemoryToCheck = (0, 0)

abbrev pub lines_of : Ending → ℕ × ℕ
lines_of Lawful = (0, 0)
lines_of NoMemory = (0, 0)
lines_of TooLong = (0, 0)
lines_of (FaultyLine line kind) = (line, 0)
lines_of (NoPlan fault) = plan_lines fault
lines_of (Unlawful fault) = order_lines fault

abbrev pub verdict_of : Ending → Verdict
verdict_of e =
    record { code = code_of e; first = (lines_of e).0; second = (lines_of e).1 }

-- the verdict is that of what the check of the text ends with
abbrev pub IsVerdict : List ℕ → Verdict → Type 0
IsVerdict text v = (e : Ending) × IsEnding text e × (v ≡ verdict_of e)
