-- The codes by which a verdict crosses to C: `c/codes` makes this file out of `c/codes.txt`.
-- This project's own.
use Rattle.std.specs.Prelude.{ℕ}
use Rattle.vq_model.specs.declared.statement.FaultKind.{FaultKind}
use Rattle.vq_model.specs.declared.statement.FaultKind.TheVariants.{Syntax, Order, Number, Name}
use Rattle.vq_model.specs.declared.statement.FaultKind.TheVariants.{Twice, Range, Overlap, Limit}
use Rattle.vq_model.specs.declared.plan.PlanFault.{PlanFault}
use Rattle.vq_model.specs.declared.plan.PlanFault.TheVariants.{NoSignal, SignaledTwice, FenceUsed}
use Rattle.vq_model.specs.declared.plan.PlanFault.TheVariants.{Memory as NoMemoryInPlanFault}
use Rattle.vq_model.specs.declared.plan.OrderFault.{OrderFault}
use Rattle.vq_model.specs.declared.plan.OrderFault.TheVariants.{Unreachable, Unordered, FenceBusy, NotPending}
use Rattle.vq_model.specs.declared.plan.OrderFault.TheVariants.{Race}
use Rattle.vq_model.specs.declared.plan.OrderFault.TheVariants.{Memory as NoMemoryInOrderFault}
use Rattle.vq_face.specs.declared.ending.Ending.{Ending}
use Rattle.vq_face.specs.declared.ending.Ending.TheVariants.{Lawful, NoMemory, TooLong, FaultyLine, NoPlan, Unlawful}

abbrev pub line_code : FaultKind → ℕ
line_code Syntax = 16
line_code Order = 17
line_code Number = 18
line_code Name = 19
line_code Twice = 20
line_code Range = 21
line_code Overlap = 22
line_code Limit = 23

abbrev pub plan_code : PlanFault → ℕ
plan_code (NoSignal n) = 32
plan_code (SignaledTwice n) = 33
plan_code (FenceUsed n) = 34
plan_code NoMemoryInPlanFault = 1

abbrev pub order_code : OrderFault → ℕ
order_code (Unreachable n) = 48
order_code (Unordered a b) = 49
order_code (FenceBusy n) = 50
order_code (NotPending n) = 51
order_code (Race a b) = 52
order_code NoMemoryInOrderFault = 1

abbrev pub code_of : Ending → ℕ
code_of Lawful = 0
code_of NoMemory = 1
code_of TooLong = 2
code_of (FaultyLine line kind) = line_code kind
code_of (NoPlan fault) = plan_code fault
code_of (Unlawful fault) = order_code fault
