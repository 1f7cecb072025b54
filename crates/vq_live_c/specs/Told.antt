-- What crosses to C of an answer: its code, and the operation or value that it tells. What a call doesn't tell stays.
use Rattle.std.specs.Prelude.{ℕ, Option, Some, None, Result, Ok, Err}
use Rattle.vq_live.specs.declared.answers.Given.{Given}
use Rattle.vq_live.specs.declared.answers.TakeFault.{TakeFault}
use Rattle.vq_live.specs.declared.answers.TakeFault.TheVariants as take_as
use Rattle.vq_live.specs.declared.answers.InstallFault.{InstallFault}
use Rattle.vq_live.specs.declared.answers.InstallFault.TheVariants as install_as
use Rattle.vq_live.specs.declared.answers.CancelFault.{CancelFault}
use Rattle.vq_live.specs.declared.answers.ReferFault.{ReferFault}
use Rattle.vq_live.specs.declared.answers.SignalFault.{SignalFault}
use Rattle.vq_live.specs.declared.answers.SignalFault.TheVariants as signal_as
use Rattle.vq_live.specs.declared.answers.Found.{Found}
use Rattle.vq_live.specs.declared.answers.Found.TheVariants as find_as
use Rattle.vq_live_c.specs.declared.reply.Reply.{Reply}
use Rattle.vq_live_c.specs.declared.reply.Reply.TheVariants as call_as
use Rattle.vq_live_c.specs.declared.rows.GivenRow.{GivenRow}
use Rattle.vq_live_c.specs.Codes.{call_code, take_code, install_code, cancel_code, refer_code, signal_code}

-- Operations

abbrev pub no_point : ℕ
no_point = 4294967295

abbrev pub row_of : Given → GivenRow
row_of x = record { value = x.value; point = x.point }

abbrev pub given_of : GivenRow → Given
given_of x = record { value = x.value; point = x.point }

abbrev pub given_told : Option Given → GivenRow → GivenRow
given_told None before = before
given_told (Some x) before = row_of x

abbrev pub given_or : Option Given → Reply → ℕ
given_or None missing = call_code missing
given_or (Some x) missing = call_code call_as.Done

-- Answers

-- the code of a fault, or that the call did what it says
abbrev pub fault_or_done : {F : Type 0} → (F → ℕ) → Option F → ℕ
fault_or_done code None = call_code call_as.Done
fault_or_done code (Some fault) = code fault

abbrev pub take_answer : Result Given TakeFault → ℕ
take_answer (Ok x) = call_code call_as.Done
take_answer (Err fault) = take_code fault

abbrev pub take_told : Result Given TakeFault → GivenRow → GivenRow
take_told (Ok x) before = row_of x
take_told (Err (take_as.NotAbove n)) before = record { value = n; point = no_point }
take_told (Err take_as.Twice) before = before
take_told (Err take_as.Full) before = before
take_told (Err take_as.NoMemory) before = before

abbrev pub install_answer : Option InstallFault → ℕ
install_answer = fault_or_done install_code

abbrev pub install_told : Option InstallFault → GivenRow → GivenRow
install_told None before = before
install_told (Some install_as.Already) before = before
install_told (Some install_as.NothingTaken) before = before
install_told (Some (install_as.NotNext x)) before = row_of x

abbrev pub cancel_answer : Option CancelFault → ℕ
cancel_answer = fault_or_done cancel_code

abbrev pub refer_answer_code : Option ReferFault → ℕ
refer_answer_code = fault_or_done refer_code

abbrev pub signal_answer : Option SignalFault → ℕ
signal_answer = fault_or_done signal_code

abbrev pub signal_told : Option SignalFault → ℕ → ℕ
signal_told None before = before
signal_told (Some (signal_as.NotAbove n)) before = n
signal_told (Some (signal_as.Outstanding n)) before = n

abbrev pub find_told : Found → GivenRow → GivenRow
find_told find_as.Past before = before
find_told (find_as.Pending x) before = row_of x
find_told find_as.NotYet before = before
