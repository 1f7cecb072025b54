-- Whole runs of calls on a live layer. A refused call changes nothing, so a run is the list of those that weren't refused.
use Rattle.std.specs.Prelude.{ℕ, Bool, true, false, List, [], ◌∷◌, ◌++◌, Option, Some, None, Ok, ◌≡◌, ◌<◌, ◌≤◌, ◌+◌, ◌-◌, ◌==◌, map, take}
use Rattle.std.specs.Prelude.{length, if◌then◌else◌}
use Rattle.std.specs.Option.{option_map_or}
use Rattle.vq_live.specs.declared.answers.Given.{Given}
use Rattle.vq_live.specs.Live.{Live, opened}
use Rattle.vq_layer.specs.declared.answers.Wanted.{Wanted}
use Rattle.vq_layer.specs.declared.answers.Kind.TheVariants.{Timeline}
use Rattle.vq_layer.specs.Layer.{Layer, Batch, Queue, queue_at, live_at}
use Rattle.vq_layer.specs.Queues.{newest, oldest}
use Rattle.vq_layer.specs.Calls.{after_open, after_open_binary, after_open_queue, close_fault, after_close, submit_fault, after_submit}
use Rattle.vq_layer.specs.Calls.{take_back_fault, after_take_back_of, blocked_of, after_release_of, oldest_in, after_finish_of}
use Rattle.vq_layer.specs.Calls.{completed_of, after_complete_of, set_fault, after_set, reset_fault, after_reset}
use Rattle.vq_layer.specs.Calls.{refer_answer_of, after_refer_of, host_refs, after_unref_of}

-- a call that wasn't refused
pub data Call : Type 0 where
  opens : ℕ → Call
  opens_binary : Bool → Call
  opens_queue : Call
  closes : ℕ → Call
  submits : ℕ → ℕ → List Wanted → List Wanted → Call
  takes_back : ℕ → Call
  releases : ℕ → Call
  finishes : ℕ → Call
  completes : ℕ → Call
  sets : ℕ → ℕ → Call
  resets : ℕ → Call
  refers_to : ℕ → ℕ → Call
  gives_back : ℕ → ℕ → Call

pub record MayFinish (l : Layer) (queue : ℕ) : Type 0 where
  pub batch : Batch
  pub first : oldest_in l queue ≡ Some batch

pub record MayComplete (l : Layer) (n : ℕ) : Type 0 where
  pub given : Given
  pub first : completed_of l n ≡ Some given

-- when each may come, by the words of the calls' contracts
abbrev pub MayCall : Layer → Call → Type 0
MayCall l (opens initial) = Unit {0}
MayCall l (opens_binary signaled) = Unit {0}
MayCall l opens_queue = Unit {0}
MayCall l (closes n) = close_fault l n ≡ None
MayCall l (submits q token waits signals) = submit_fault l q waits signals ≡ None
MayCall l (takes_back q) = take_back_fault l q ≡ None
MayCall l (releases q) = blocked_of l q ≡ None
MayCall l (finishes q) = MayFinish l q
MayCall l (completes n) = MayComplete l n
MayCall l (sets n value) = set_fault l n value ≡ None
MayCall l (resets n) = reset_fault l n ≡ None
MayCall l (refers_to n p) = refer_answer_of l n p ≡ Ok (record { point = p })
MayCall l (gives_back n p) = host_refs l n p ≡ 0 → ⊥

-- what each leaves
abbrev pub after_call : Layer → Call → Layer
after_call l (opens initial) = after_open l (opened initial) Timeline
after_call l (opens_binary signaled) = after_open_binary l signaled
after_call l opens_queue = after_open_queue l
after_call l (closes n) = after_close l n
after_call l (submits q token waits signals) = after_submit l q token waits signals
after_call l (takes_back q) = after_take_back_of l q (newest (queue_at l.queues q))
after_call l (releases q) = after_release_of l q
after_call l (finishes q) = after_finish_of l q
after_call l (completes n) = after_complete_of l n
after_call l (sets n value) = after_set l n value
after_call l (resets n) = after_reset l n
after_call l (refers_to n p) = after_refer_of l n p
after_call l (gives_back n p) = after_unref_of l n p

abbrev pub AreCalls : Layer → List Call → Type 0
AreCalls l [] = Unit {0}
AreCalls l (c ∷ calls) = MayCall l c × AreCalls (after_call l c) calls

abbrev pub after_calls : Layer → List Call → Layer
after_calls l [] = l
after_calls l (c ∷ calls) = after_calls (after_call l c) calls
