-- What mends a fault, in a sentence. This project's own.
use Rattle.std.specs.Prelude.{ℕ, List, [], codes}
use Rattle.vq_model.specs.declared.statement.FaultKind.{FaultKind}
use Rattle.vq_model.specs.declared.statement.FaultKind.TheVariants.{Syntax, Order, Number, Name, Twice, Range, Overlap}
use Rattle.vq_model.specs.declared.statement.FaultKind.TheVariants.{Limit}
use Rattle.vq_model.specs.declared.plan.PlanFault.{PlanFault}
use Rattle.vq_model.specs.declared.plan.PlanFault.TheVariants.{NoSignal, SignaledTwice, FenceUsed}
use Rattle.vq_model.specs.declared.plan.PlanFault.TheVariants.{Memory as NoMemoryToLower}
use Rattle.vq_model.specs.declared.plan.OrderFault.{OrderFault}
use Rattle.vq_model.specs.declared.plan.OrderFault.TheVariants.{Unreachable, Unordered, FenceBusy, NotPending, Race}
use Rattle.vq_model.specs.declared.plan.OrderFault.TheVariants.{Memory as NoMemoryToCheck}

abbrev pub mend_of_size : List ℕ
mend_of_size = codes "shorten comments and blanks, or cut the script in two\n"

-- a fault of one line
abbrev pub mend_of_line : FaultKind → List ℕ
mend_of_line Syntax = codes "compare the line with the forms of lines\n"
mend_of_line Order = codes "move the line up\n"
mend_of_line Number = codes "write a decimal number, or 0x and hexadecimal digits\n"
mend_of_line Name = codes "declare the name above, or correct it\n"
mend_of_line Twice = codes "choose another name\n"
mend_of_line Range = codes "count the bytes of the buffer and of the command\n"
mend_of_line Overlap = codes "copy through another buffer\n"
mend_of_line Limit = codes "keep to the limits, or cut the script in two\n"

-- a fault of binary semaphores or fences
abbrev pub mend_of_plan : PlanFault → List ℕ
mend_of_plan (NoSignal n) = codes "submit the batch that signals it first, or use a timeline\n"
mend_of_plan (SignaledTwice n) = codes "let a batch wait for it in between, or use two semaphores\n"
mend_of_plan (FenceUsed n) = codes "wait for the fence and reset it before the second batch\n"
mend_of_plan NoMemoryToLower = []

-- a fault of the order
abbrev pub mend_of_order : OrderFault → List ℕ
mend_of_order (Unreachable n) =
    codes "let another queue or the host signal that value, wait for less, or break the ring of waits\n"
mend_of_order (Unordered a b) =
    codes "let the batch of the greater value wait for the smaller one\n"
mend_of_order (FenceBusy n) = codes "let the host wait for the fence before it resets it\n"
mend_of_order (NotPending n) =
    codes "let the host wait for the signal before the batch, or make the queue deferred or threaded\n"
mend_of_order (Race a b) =
    codes "let the first batch signal a timeline, and the second one wait for that value\n"
mend_of_order NoMemoryToCheck = []
