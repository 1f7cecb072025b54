-- What each call of a live layer answers and leaves.
use Rattle.std.specs.Prelude.{ℕ, Bool, true, false, List, [], ◌∷◌, ◌++◌, ◌+◌, ◌-◌, Option, None, Some, Result, Err}
use Rattle.std.specs.Prelude.{slice_set, length, nat_lt, nat_le, nat_eq, if◌then◌else◌}
use Rattle.vq_live.specs.declared.answers.Given.{Given}
use Rattle.vq_live.specs.declared.answers.Held.{Held}
use Rattle.vq_live.specs.declared.answers.ReferFault.{ReferFault}
use Rattle.vq_live.specs.declared.answers.ReferFault.TheVariants as refer_as
use Rattle.vq_live.specs.declared.answers.TakeFault.TheVariants as take_as
use Rattle.vq_live.specs.declared.answers.SignalFault.{SignalFault}
use Rattle.vq_live.specs.declared.answers.SignalFault.TheVariants as signal_as
use Rattle.vq_live.specs.Live.{Live, opened, pending_value, slot_at}
use Rattle.vq_live.specs.Calls.{first_pending, after_complete, signal_fault, after_signal, refer_answer, after_refer, after_unref, held_from}
use Rattle.vq_layer.specs.declared.answers.Wanted.{Wanted}
use Rattle.vq_layer.specs.declared.answers.Kind.{Kind}
use Rattle.vq_layer.specs.declared.answers.Kind.TheVariants as kind_as
use Rattle.vq_layer.specs.declared.answers.SubmitFault.{SubmitFault}
use Rattle.vq_layer.specs.declared.answers.SubmitFault.TheVariants as submit_as
use Rattle.vq_layer.specs.declared.answers.TakeBackFault.{TakeBackFault}
use Rattle.vq_layer.specs.declared.answers.TakeBackFault.TheVariants as take_back_as
use Rattle.vq_layer.specs.declared.answers.Blocked.{Blocked}
use Rattle.vq_layer.specs.declared.answers.Blocked.TheVariants as blocked_as
use Rattle.vq_layer.specs.declared.answers.CloseFault.{CloseFault}
use Rattle.vq_layer.specs.declared.answers.CloseFault.TheVariants as close_as
use Rattle.vq_layer.specs.declared.answers.SetFault.{SetFault}
use Rattle.vq_layer.specs.declared.answers.SetFault.TheVariants as set_as
use Rattle.vq_layer.specs.declared.answers.ResetFault.{ResetFault}
use Rattle.vq_layer.specs.declared.answers.ResetFault.TheVariants as reset_as
use Rattle.vq_layer.specs.Layer.{Layer, Batch, live_at, kind_at, queue_at, no_queue}
use Rattle.vq_layer.specs.Names.{with_wait}
use Rattle.vq_layer.specs.Names.{first_some, first_wait_fault, first_signal_fault, waits_named, signals_named, kinds_waited, kinds_signaled}
use Rattle.vq_layer.specs.Names.{first_used_signal, first_used_wait, kinds_unsignaled, kinds_unwaited, free_from, is_closed}
use Rattle.vq_layer.specs.Takes.{taken_all, first_take_fault, LackNumbers}
use Rattle.vq_layer.specs.Installs.{cancelled_all}
use Rattle.vq_layer.specs.Queues.{batch_made, blocked, next_batch, timelines_released, after_release, oldest, after_finish, with_batch}
use Rattle.vq_layer.specs.Queues.{first_held_back, missing_of, newest_held_back, after_take_back, first_naming, left_by_queues, first_ready}
use Rattle.vq_layer.specs.Waits.{returned_all}

-- opening: at the first number that stands for nothing, or behind the others
abbrev pub free_number : Layer → ℕ
free_number l = free_from 0 l.kinds

abbrev pub put_at : {X : Type 0} → List X → ℕ → X → List X
put_at xs n x = if nat_lt n (length xs) then slice_set xs n x else xs ++ x ∷ []

abbrev pub after_open : Layer → Live → Kind → Layer
after_open l t kind =
    record l { timelines = put_at l.timelines (free_number l) t; kinds = put_at l.kinds (free_number l) kind }

-- a binary semaphore, unsignaled or signaled once
abbrev pub count_if : Bool → ℕ
count_if true = 1
count_if false = 0

abbrev pub after_open_binary : Layer → Bool → Layer
after_open_binary l signaled =
    after_open l (opened (count_if signaled)) (kind_as.Binary (count_if signaled) 0)

abbrev pub after_open_queue : Layer → Layer
after_open_queue l = record l { queues = l.queues ++ no_queue ∷ [] }

-- closing
abbrev pub close_held : Option ℕ → Option CloseFault
close_held None = None
close_held (Some point) = Some (close_as.Held point)

abbrev pub close_named : Option ℕ → Option CloseFault → Option CloseFault
close_named None held = held
close_named (Some queue) held = Some (close_as.Named queue)

abbrev pub close_fault : Layer → ℕ → Option CloseFault
close_fault l n =
    if is_closed (kind_at l.kinds n) then Some close_as.NoTimeline
    else close_named (first_naming n 0 l.queues) (close_held (held_from 0 (live_at l.timelines n).slots))

abbrev pub after_close : Layer → ℕ → Layer
after_close l n =
    record l { timelines = slice_set l.timelines n (opened 0); kinds = slice_set l.kinds n kind_as.Closed }

-- submitting: so many waits may be in flight
abbrev pub most_waits : ℕ
most_waits = 2147483647

abbrev pub submit_fault : Layer → ℕ → List Wanted → List Wanted → Option SubmitFault
submit_fault l queue waits signals =
    if nat_lt queue (length l.queues)
    then if nat_lt most_waits (l.waits + length waits) then Some submit_as.Full
    else first_some (first_wait_fault l.kinds waits)
    (first_some (first_signal_fault l.kinds waits signals)
    (first_take_fault l.timelines (signals_named l.kinds signals)))
    else Some submit_as.NoQueue

-- a submission can fail for want of memory too, or of numbers of points
abbrev pub MayLackOf : List Live → List Wanted → SubmitFault → Type 0
MayLackOf ts signals submit_as.NoMemory = Unit {0}
MayLackOf ts signals (submit_as.NotTaken n take_as.Full) = LackNumbers ts signals n
MayLackOf ts signals fault = ⊥

abbrev pub MayLackIn : Layer → List Wanted → SubmitFault → Type 0
MayLackIn l signals fault = MayLackOf l.timelines (signals_named l.kinds signals) fault

abbrev pub after_submit : Layer → ℕ → ℕ → List Wanted → List Wanted → Layer
after_submit l queue token waits signals =
    record {
      timelines = taken_all l.timelines (signals_named l.kinds signals);
      kinds = kinds_signaled (kinds_waited l.kinds waits) (signals_named l.kinds signals);
      queues = slice_set l.queues queue
          (with_batch (queue_at l.queues queue)
          (batch_made l.timelines token (waits_named l.kinds waits) (signals_named l.kinds signals)));
      waits = l.waits + length waits;
    }

-- taking back
abbrev pub used_fault : Option ℕ → Option ℕ → Option TakeBackFault
used_fault (Some n) later = Some (take_back_as.Used n)
used_fault None (Some n) = Some (take_back_as.Used n)
used_fault None None = None

abbrev pub batch_take_back_fault : List Kind → Option Batch → Option TakeBackFault
batch_take_back_fault kinds None = Some take_back_as.Empty
batch_take_back_fault kinds (Some b) =
    used_fault (first_used_signal kinds b.signals) (first_used_wait kinds b.signals b.waits)

abbrev pub take_back_fault : Layer → ℕ → Option TakeBackFault
take_back_fault l queue =
    if nat_lt queue (length l.queues)
    then batch_take_back_fault l.kinds (newest_held_back (queue_at l.queues queue))
    else Some take_back_as.NoQueue

abbrev pub after_take_back_of : Layer → ℕ → Batch → Layer
after_take_back_of l queue b =
    record {
      timelines = cancelled_all l.timelines b.signals;
      kinds = kinds_unwaited (kinds_unsignaled l.kinds b.signals) b.waits;
      queues = slice_set l.queues queue (after_take_back (queue_at l.queues queue));
      waits = l.waits - length b.waits;
    }

-- releasing
abbrev pub blocked_of : Layer → ℕ → Option Blocked
blocked_of l queue =
    if nat_lt queue (length l.queues) then blocked l.timelines (queue_at l.queues queue)
    else Some blocked_as.NoQueue

abbrev pub after_release_of : Layer → ℕ → Layer
after_release_of l queue =
    record l {
      timelines = timelines_released l.timelines (next_batch (queue_at l.queues queue));
      queues = slice_set l.queues queue (after_release l.timelines (queue_at l.queues queue));
    }

abbrev pub next_of : Layer → Option ℕ
next_of l = first_ready l.timelines 0 l.queues

-- what the first held-back batch of a queue waits for and nothing signals
abbrev pub stuck_of : Layer → ℕ → Option Wanted
stuck_of l queue = missing_of l.timelines l.queues (first_held_back (queue_at l.queues queue))

-- finishing
abbrev pub oldest_in : Layer → ℕ → Option Batch
oldest_in l queue = oldest (queue_at l.queues queue)

abbrev pub finish_from : Layer → ℕ → Option Batch → Layer
finish_from l queue None = l
finish_from l queue (Some b) =
    record l {
      timelines = returned_all l.timelines b.waits;
      queues = slice_set l.queues queue (after_finish (queue_at l.queues queue));
      waits = l.waits - length b.waits;
    }

abbrev pub after_finish_of : Layer → ℕ → Layer
after_finish_of l queue = finish_from l queue (oldest_in l queue)

-- a call of one timeline
abbrev pub with_timeline : Layer → ℕ → Live → Layer
with_timeline l n t = record l { timelines = slice_set l.timelines n t }

abbrev pub completed_of : Layer → ℕ → Option Given
completed_of l n = first_pending (live_at l.timelines n)

abbrev pub after_complete_of : Layer → ℕ → Layer
after_complete_of l n = with_timeline l n (after_complete (live_at l.timelines n))

-- the host's signal of a timeline
abbrev pub set_fault_of : Option SignalFault → Option SetFault
set_fault_of None = None
set_fault_of (Some (signal_as.NotAbove payload)) = Some (set_as.NotAbove payload)
set_fault_of (Some (signal_as.Outstanding first)) = Some (set_as.Outstanding first)

abbrev pub set_fault_in : Kind → Live → ℕ → Option SetFault
set_fault_in kind_as.Closed t value = Some set_as.NoTimeline
set_fault_in kind_as.Timeline t value = set_fault_of (signal_fault t value)
set_fault_in (kind_as.Binary signals taken) t value = Some set_as.NoTimeline

abbrev pub set_fault : Layer → ℕ → ℕ → Option SetFault
set_fault l n value = set_fault_in (kind_at l.kinds n) (live_at l.timelines n) value

abbrev pub after_set : Layer → ℕ → ℕ → Layer
after_set l n value = with_timeline l n (after_signal (live_at l.timelines n) value)

-- the signal of a binary semaphore or a fence that isn't taken
abbrev pub signal_in_kind : Kind → Option ℕ
signal_in_kind kind_as.Closed = None
signal_in_kind kind_as.Timeline = None
signal_in_kind (kind_as.Binary signals taken) = if nat_eq signals taken then None else Some signals

-- the host's reset of a fence: it takes the signal, which is reached
abbrev pub reached_fault : Bool → Option ResetFault
reached_fault true = None
reached_fault false = Some reset_as.InUse

abbrev pub reset_fault_in : Kind → ℕ → Option ResetFault
reset_fault_in kind_as.Closed payload = Some reset_as.NoBinary
reset_fault_in kind_as.Timeline payload = Some reset_as.NoBinary
reset_fault_in (kind_as.Binary signals taken) payload =
    if nat_eq signals taken then None else reached_fault (nat_le signals payload)

abbrev pub reset_fault : Layer → ℕ → Option ResetFault
reset_fault l n = reset_fault_in (kind_at l.kinds n) (live_at l.timelines n).payload

abbrev pub after_reset : Layer → ℕ → Layer
after_reset l n = record l { kinds = slice_set l.kinds n (with_wait (kind_at l.kinds n)) }

-- the host's references to a point: no more than 2^31 references in all
abbrev pub host_refer_answer : Live → ℕ → Result Held ReferFault
host_refer_answer t point =
    if nat_le 2147483648 (slot_at t.slots point).refs then Err refer_as.Full else refer_answer t point

abbrev pub refer_answer_of : Layer → ℕ → ℕ → Result Held ReferFault
refer_answer_of l n point = host_refer_answer (live_at l.timelines n) point

abbrev pub after_refer_of : Layer → ℕ → ℕ → Layer
after_refer_of l n point = with_timeline l n (after_refer (live_at l.timelines n) point)

-- how many references to a point aren't those of released batches
abbrev pub host_refs : Layer → ℕ → ℕ → ℕ
host_refs l n point = left_by_queues n point (slot_at (live_at l.timelines n).slots point).refs l.queues

abbrev pub after_unref_of : Layer → ℕ → ℕ → Layer
after_unref_of l n point = with_timeline l n (after_unref (live_at l.timelines n) point)

-- the value that a timeline or a binary semaphore reached
abbrev pub value_in : Kind → Live → Option ℕ
value_in kind_as.Closed t = None
value_in kind_as.Timeline t = Some t.payload
value_in (kind_as.Binary signals taken) t = Some t.payload

-- the value of its last pending operation, and where none is pending, the one reached
abbrev pub pending_value_in : Kind → Live → Option ℕ
pending_value_in kind_as.Closed t = None
pending_value_in kind_as.Timeline t = Some (pending_value t)
pending_value_in (kind_as.Binary signals taken) t = Some (pending_value t)
