-- What crosses to C of an answer: its code, and the number and the value that it tells, 0 where it tells none.
use Rattle.std.specs.Prelude.{ℕ, Option, Some, None, List, ◌++◌, length, map, take, drop, min, nat_le, if◌then◌else◌}
use Rattle.vq_live.specs.declared.answers.Given.{Given}
use Rattle.vq_live.specs.declared.answers.TakeFault.{TakeFault}
use Rattle.vq_live.specs.declared.answers.TakeFault.TheVariants as take_as
use Rattle.vq_live.specs.declared.answers.ReferFault.{ReferFault}
use Rattle.vq_live.specs.declared.answers.ReferFault.TheVariants as refer_as
use Rattle.vq_live.specs.declared.answers.Found.{Found}
use Rattle.vq_live.specs.declared.answers.Found.TheVariants as find_as
use Rattle.vq_layer.specs.declared.answers.Wanted.{Wanted}
use Rattle.vq_layer.specs.declared.answers.Wait.{Wait}
use Rattle.vq_layer.specs.declared.answers.Signal.{Signal}
use Rattle.vq_layer.specs.declared.answers.SubmitFault.{SubmitFault}
use Rattle.vq_layer.specs.declared.answers.SubmitFault.TheVariants as submit_as
use Rattle.vq_layer.specs.declared.answers.TakeBackFault.{TakeBackFault}
use Rattle.vq_layer.specs.declared.answers.TakeBackFault.TheVariants as take_back_as
use Rattle.vq_layer.specs.declared.answers.Blocked.{Blocked}
use Rattle.vq_layer.specs.declared.answers.Blocked.TheVariants as blocked_as
use Rattle.vq_layer.specs.declared.answers.CloseFault.{CloseFault}
use Rattle.vq_layer.specs.declared.answers.CloseFault.TheVariants as close_as
use Rattle.vq_layer.specs.declared.answers.SetFault.{SetFault}
use Rattle.vq_layer.specs.declared.answers.SetFault.TheVariants as set_as
use Rattle.vq_layer.specs.declared.answers.ResetFault.{ResetFault}
use Rattle.vq_layer.specs.declared.answers.ResetFault.TheVariants as reset_as
use Rattle.vq_layer_c.specs.declared.reply.Reply.{Reply}
use Rattle.vq_layer_c.specs.declared.reply.Reply.TheVariants as call_as
use Rattle.vq_layer_c.specs.declared.answer.Answer.{Answer}
use Rattle.vq_layer_c.specs.declared.answer.PointRow.{PointRow}
use Rattle.vq_layer_c.specs.Codes.{call_code}

abbrev pub told : Reply → ℕ → ℕ → Answer
told reply number value = record { code = call_code reply; number = number; value = value }

abbrev pub said : Reply → Answer
said reply = told reply 0 0

-- Opening and closing

abbrev pub number_told : Option ℕ → Answer
number_told None = said call_as.NoMemory
number_told (Some number) = told call_as.Done number 0

abbrev pub close_told : Option CloseFault → Answer
close_told None = said call_as.Done
close_told (Some close_as.NoTimeline) = said call_as.NoTimeline
close_told (Some (close_as.Named queue)) = told call_as.Named queue 0
close_told (Some (close_as.Held point)) = told call_as.Held point 0

-- Batches

abbrev pub take_fault_told : ℕ → TakeFault → Answer
take_fault_told timeline (take_as.NotAbove pending) = told call_as.NotAbove timeline pending
take_fault_told timeline take_as.Twice = told call_as.Twice timeline 0
take_fault_told timeline take_as.Full = told call_as.Full timeline 0
take_fault_told timeline take_as.NoMemory = said call_as.NoMemory

abbrev pub submit_fault_told : SubmitFault → Answer
submit_fault_told submit_as.NoQueue = said call_as.NoQueue
submit_fault_told submit_as.Full = said call_as.TooManyWaits
submit_fault_told (submit_as.NoTimeline timeline) = told call_as.NoTimeline timeline 0
submit_fault_told (submit_as.Unsignaled timeline) = told call_as.Unsignaled timeline 0
submit_fault_told (submit_as.Signaled timeline) = told call_as.Signaled timeline 0
submit_fault_told (submit_as.Repeated timeline) = told call_as.Repeated timeline 0
submit_fault_told (submit_as.NotTaken timeline fault) = take_fault_told timeline fault
submit_fault_told submit_as.NoMemory = said call_as.NoMemory

abbrev pub take_back_told : Option TakeBackFault → ℕ → Answer
take_back_told None token = told call_as.Done 0 token
take_back_told (Some take_back_as.NoQueue) token = said call_as.NoQueue
take_back_told (Some take_back_as.Empty) token = said call_as.Empty
take_back_told (Some (take_back_as.Used timeline)) token = told call_as.Used timeline 0

abbrev pub release_told : Option Blocked → ℕ → Answer
release_told None place = told call_as.Done 0 place
release_told (Some blocked_as.NoQueue) place = said call_as.NoQueue
release_told (Some blocked_as.Empty) place = said call_as.Empty
release_told (Some (blocked_as.Waits w)) place = told call_as.Waits w.timeline w.value
release_told (Some (blocked_as.Behind s)) place = told call_as.Behind s.timeline s.given.value

abbrev pub blocked_told : Option Blocked → Answer
blocked_told cause = release_told cause 0

abbrev pub ready_told : Option ℕ → Answer
ready_told None = said call_as.NoneReady
ready_told (Some queue) = told call_as.Done queue 0

abbrev pub missing_told : Option Wanted → Answer
missing_told None = said call_as.Done
missing_told (Some w) = told call_as.Missing w.timeline w.value

abbrev pub token_told : Option ℕ → Answer
token_told None = said call_as.NothingReleased
token_told (Some token) = told call_as.Done 0 token

-- Timelines

abbrev pub given_told : Option Given → Answer
given_told None = said call_as.NothingPending
given_told (Some x) = told call_as.Done x.point x.value

abbrev pub found_told : Found → Answer
found_told find_as.Past = said call_as.Past
found_told (find_as.Pending x) = told call_as.Pending x.point x.value
found_told find_as.NotYet = said call_as.NotYet

abbrev pub found_if : Option ℕ → Found → Answer
found_if None found = said call_as.NoTimeline
found_if (Some payload) found = found_told found

abbrev pub refer_told : Option ReferFault → Answer
refer_told None = said call_as.Done
refer_told (Some refer_as.NotOut) = said call_as.NotOut
refer_told (Some refer_as.Full) = said call_as.Full

abbrev pub set_told : Option SetFault → Answer
set_told None = said call_as.Done
set_told (Some set_as.NoTimeline) = said call_as.NoTimeline
set_told (Some (set_as.NotAbove payload)) = told call_as.NotAbove 0 payload
set_told (Some (set_as.Outstanding first)) = told call_as.Outstanding 0 first

abbrev pub value_told : Option ℕ → Answer
value_told None = said call_as.NoTimeline
value_told (Some value) = told call_as.Done 0 value

abbrev pub untaken_told : Option ℕ → Answer
untaken_told None = said call_as.Unsignaled
untaken_told (Some signal) = told call_as.Done 0 signal

abbrev pub reset_told : Option ResetFault → Answer
reset_told None = said call_as.Done
reset_told (Some reset_as.NoBinary) = said call_as.NoBinary
reset_told (Some reset_as.InUse) = said call_as.InUse

-- Rows

abbrev pub no_point : ℕ
no_point = 4294967295

abbrev pub point_or_none : Option ℕ → ℕ
point_or_none None = no_point
point_or_none (Some point) = point

abbrev pub signal_row : Signal → PointRow
signal_row s = record { timeline = s.timeline; point = s.given.point; value = s.given.value }

abbrev pub wait_row : Wait → PointRow
wait_row w = record { timeline = w.wanted.timeline; point = point_or_none w.held; value = w.wanted.value }

-- how many of these go into a room
abbrev pub fitting : {A : Type 0} → List A → List PointRow → ℕ
fitting xs room = min (length xs) (length room)

-- a room with the rows of as many as go into it in front; the rest is as it was
abbrev pub with_front_of : {A : Type 0} → (A → PointRow) → List A → List PointRow → List PointRow
with_front_of row_of xs room = map row_of (take (fitting xs room) xs) ++ drop (fitting xs room) room

abbrev pub fit_reply : ℕ → ℕ → Reply
fit_reply rows room = if nat_le rows room then call_as.Done else call_as.NoRoom
