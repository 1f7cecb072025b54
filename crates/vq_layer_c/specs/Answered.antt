-- What each call answers of a layer, and leaves of it.
use Rattle.std.specs.Prelude.{ℕ, Bool, ◌≡◌, ◌⊎◌, List, length, Option, Some, None, Result, Ok, Err}
use Rattle.std.specs.Option.{option_map}
use Rattle.vq_live.specs.declared.answers.Held.{Held}
use Rattle.vq_live.specs.declared.answers.ReferFault.{ReferFault}
use Rattle.vq_live.specs.Live.{opened}
use Rattle.vq_layer.specs.declared.answers.Wanted.{Wanted}
use Rattle.vq_layer.specs.declared.answers.SubmitFault.{SubmitFault}
use Rattle.vq_layer.specs.declared.answers.Kind.TheVariants as kind_as
use Rattle.vq_layer.specs.Layer.{Layer, live_at, kind_at, queue_at}
use Rattle.vq_layer.specs.Queues.{newest}
use Rattle.vq_layer.specs.Waits.{found_in}
use Rattle.vq_layer.specs.Calls.{free_number, after_open, after_open_binary, after_open_queue, close_fault, after_close}
use Rattle.vq_layer.specs.Calls.{submit_fault, MayLackIn, after_submit, take_back_fault, after_take_back_of}
use Rattle.vq_layer.specs.Calls.{blocked_of, after_release_of, next_of, stuck_of, oldest_in, after_finish_of}
use Rattle.vq_layer.specs.Calls.{completed_of, after_complete_of, set_fault, after_set, signal_in_kind, reset_fault, after_reset}
use Rattle.vq_layer.specs.Calls.{refer_answer_of, after_refer_of, host_refs, after_unref_of, value_in, pending_value_in}
use Rattle.vq_layer_c.specs.declared.reply.Reply.TheVariants as call_as
use Rattle.vq_layer_c.specs.declared.answer.Answer.{Answer}
use Rattle.vq_layer_c.specs.Codes.{call_code}
use Rattle.vq_layer_c.specs.Told.{said, told, close_told, submit_fault_told, take_back_told, release_told}
use Rattle.vq_layer_c.specs.Told.{blocked_told, ready_told, missing_told, token_told, given_told, found_if, refer_told}
use Rattle.vq_layer_c.specs.Told.{set_told, value_told, untaken_told, reset_told}

-- what is left by a call that changes nothing where it is refused
abbrev pub unless_refused : {F : Type 0} → Option F → Layer → Layer → Layer
unless_refused None before after = after
unless_refused (Some fault) before after = before

-- Opening a layer: there was no memory only where what stood for it stays.
abbrev pub HasOpened : {A : Type 0} → A → A → ℕ → Type 0
HasOpened before after code =
    (code ≡ call_code call_as.Done) ⊎ ((code ≡ call_code call_as.NoMemory) × (after ≡ before))

-- Opening something in a layer: it stands at its number; or there was no memory, and nothing is changed.
abbrev pub HasOpenedAt : ℕ → Layer → Layer → Layer → Answer → Type 0
HasOpenedAt number opened l m a =
    ((m ≡ opened) × (a ≡ told call_as.Done number 0)) ⊎ ((m ≡ l) × (a ≡ said call_as.NoMemory))

abbrev pub HasOpenedTimeline : ℕ → Layer → Layer → Answer → Type 0
HasOpenedTimeline initial l = HasOpenedAt (free_number l) (after_open l (opened initial) kind_as.Timeline) l

abbrev pub HasOpenedBinary : Bool → Layer → Layer → Answer → Type 0
HasOpenedBinary signaled l = HasOpenedAt (free_number l) (after_open_binary l signaled) l

abbrev pub HasOpenedQueue : Layer → Layer → Answer → Type 0
HasOpenedQueue l = HasOpenedAt (length l.queues) (after_open_queue l) l

abbrev pub HasClosed : ℕ → Layer → Layer → Answer → Type 0
HasClosed n l m a = (m ≡ unless_refused (close_fault l n) l (after_close l n)) × (a ≡ close_told (close_fault l n))

-- A batch is submitted, and told where it stands; or why not, and nothing is changed.
abbrev pub IsSubmitted : ℕ → ℕ → List Wanted → List Wanted → Layer → Layer → Answer → Type 0
IsSubmitted queue token waits signals l m a =
    (submit_fault l queue waits signals ≡ None) × (m ≡ after_submit l queue token waits signals)
    × (a ≡ told call_as.Done 0 (length (queue_at l.queues queue).batches))

abbrev pub IsUnsubmitted : ℕ → List Wanted → List Wanted → Layer → Layer → Answer → Type 0
IsUnsubmitted queue waits signals l m a =
    (fault : SubmitFault) × ((submit_fault l queue waits signals ≡ Some fault) ⊎ MayLackIn l signals fault) × (m ≡ l)
    × (a ≡ submit_fault_told fault)

abbrev pub HasSubmitted : ℕ → ℕ → List Wanted → List Wanted → Layer → Layer → Answer → Type 0
HasSubmitted queue token waits signals l m a =
    IsSubmitted queue token waits signals l m a ⊎ IsUnsubmitted queue waits signals l m a

-- The batch that was submitted last is taken back, and its token told; or why not, and nothing is changed.
abbrev pub HasTakenBack : ℕ → Layer → Layer → Answer → Type 0
HasTakenBack queue l m a =
    (m ≡ unless_refused (take_back_fault l queue) l (after_take_back_of l queue (newest (queue_at l.queues queue))))
    × (a ≡ take_back_told (take_back_fault l queue) (newest (queue_at l.queues queue)).token)

abbrev pub blocked_answer : ℕ → Layer → Answer
blocked_answer queue l = blocked_told (blocked_of l queue)

abbrev pub next_answer : Layer → Answer
next_answer l = ready_told (next_of l)

abbrev pub stuck_answer : ℕ → Layer → Answer
stuck_answer queue l = missing_told (stuck_of l queue)

-- The first held-back batch is released, and told where it stands; or what it is blocked by, and nothing is changed.
abbrev pub HasReleased : ℕ → Layer → Layer → Answer → Type 0
HasReleased queue l m a =
    (m ≡ unless_refused (blocked_of l queue) l (after_release_of l queue))
    × (a ≡ release_told (blocked_of l queue) (queue_at l.queues queue).released)

-- The oldest released batch is finished, if there is one.
abbrev pub HasFinished : ℕ → Layer → Layer → Answer → Type 0
HasFinished queue l m a =
    (m ≡ after_finish_of l queue) × (a ≡ token_told (option_map (λ b. b.token) (oldest_in l queue)))

-- The first pending operation is completed, if there is one.
abbrev pub HasCompleted : ℕ → Layer → Layer → Answer → Type 0
HasCompleted n l m a = (m ≡ after_complete_of l n) × (a ≡ given_told (completed_of l n))

abbrev pub first_answer : ℕ → Layer → Answer
first_answer n l = given_told (completed_of l n)

abbrev pub find_answer : ℕ → ℕ → Layer → Answer
find_answer n value l =
    found_if (value_in (kind_at l.kinds n) (live_at l.timelines n))
    (found_in l.timelines (record { timeline = n; value = value }))

-- The point is held; or why not, and nothing is changed.
abbrev pub fault_of : Result Held ReferFault → Option ReferFault
fault_of (Ok held) = None
fault_of (Err fault) = Some fault

abbrev pub refer_fault : Layer → ℕ → ℕ → Option ReferFault
refer_fault l n point = fault_of (refer_answer_of l n point)

abbrev pub HasReferred : ℕ → ℕ → Layer → Layer → Answer → Type 0
HasReferred n point l m a =
    (m ≡ unless_refused (refer_fault l n point) l (after_refer_of l n point)) × (a ≡ refer_told (refer_fault l n point))

-- A reference is given back; or the host doesn't hold the point, and nothing is changed.
abbrev pub HasReturned : ℕ → ℕ → Layer → Layer → Answer → Type 0
HasReturned n point l m a =
    ((host_refs l n point ≡ 0 → ⊥) × (m ≡ after_unref_of l n point) × (a ≡ said call_as.Done))
    ⊎ ((host_refs l n point ≡ 0) × (m ≡ l) × (a ≡ said call_as.NotHeld))

-- The host's value is set; or why not, and nothing is changed.
abbrev pub HasSignaled : ℕ → ℕ → Layer → Layer → Answer → Type 0
HasSignaled n value l m a =
    (m ≡ unless_refused (set_fault l n value) l (after_set l n value)) × (a ≡ set_told (set_fault l n value))

abbrev pub value_answer : ℕ → Layer → Answer
value_answer n l = value_told (value_in (kind_at l.kinds n) (live_at l.timelines n))

abbrev pub pending_value_answer : ℕ → Layer → Answer
pending_value_answer n l = value_told (pending_value_in (kind_at l.kinds n) (live_at l.timelines n))

abbrev pub untaken_answer : ℕ → Layer → Answer
untaken_answer n l = untaken_told (signal_in_kind (kind_at l.kinds n))

-- The fence is reset; or why not, and nothing is changed.
abbrev pub HasReset : ℕ → Layer → Layer → Answer → Type 0
HasReset n l m a =
    (m ≡ unless_refused (reset_fault l n) l (after_reset l n)) × (a ≡ reset_told (reset_fault l n))
