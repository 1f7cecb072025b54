-- What each call of a queue answers and leaves.
use Rattle.std.specs.Prelude.{ℕ, Bool, true, false, List, [], ◌∷◌, ◌++◌, ◌+◌, ◌-◌, ◌==◌, Option, None, Some, slice_set, drop, take}
use Rattle.std.specs.Prelude.{length, nat_eq, nat_le, nat_lt, not, ◌&&◌, if◌then◌else◌}
use Rattle.std.specs.List.{slice_get, slice_index_or}
use Rattle.vq_live.specs.Live.{Live}
use Rattle.vq_layer.specs.declared.answers.Wanted.{Wanted}
use Rattle.vq_layer.specs.declared.answers.Wait.{Wait}
use Rattle.vq_layer.specs.declared.answers.Signal.{Signal}
use Rattle.vq_layer.specs.declared.answers.Blocked.{Blocked}
use Rattle.vq_layer.specs.declared.answers.Blocked.TheVariants as blocked_as
use Rattle.vq_layer.specs.Layer.{Batch, Queue, no_batch}
use Rattle.vq_layer.specs.Names.{waits_name, signals_name}
use Rattle.vq_layer.specs.Takes.{signals_all}
use Rattle.vq_layer.specs.Installs.{installed_all, first_behind}
use Rattle.vq_layer.specs.Waits.{found_in, is_not_yet, first_not_yet, held_all, waits_all, returned_all, left_by_waits}

-- what a batch is blocked by
abbrev pub blocked_by : Option Wanted → Option Signal → Option Blocked
blocked_by (Some w) behind = Some (blocked_as.Waits w)
blocked_by None (Some s) = Some (blocked_as.Behind s)
blocked_by None None = None

abbrev pub batch_blocked : List Live → Batch → Option Blocked
batch_blocked ts b = blocked_by (first_not_yet ts b.waits) (first_behind ts b.signals)

abbrev pub blocked_first : List Live → Option Batch → Option Blocked
blocked_first ts None = Some blocked_as.Empty
blocked_first ts (Some b) = batch_blocked ts b

-- the first held-back batch of a queue, and what it is blocked by
abbrev pub first_held_back : Queue → Option Batch
first_held_back q = slice_get q.batches q.released

abbrev pub blocked : List Live → Queue → Option Blocked
blocked ts q = blocked_first ts (first_held_back q)

-- a new batch, of its waits and its signals
abbrev pub batch_made : List Live → ℕ → List Wait → List Wanted → Batch
batch_made ts token waits signals = record { token = token; waits = waits; signals = signals_all ts signals }

-- a batch stands behind the others
abbrev pub with_batch : Queue → Batch → Queue
with_batch q b = record q { batches = q.batches ++ b ∷ [] }

-- the release of a batch: it holds what it waits for, and its operations are installed
abbrev pub batch_released : List Live → Batch → Batch
batch_released ts b = record b { waits = waits_all ts b.waits }

abbrev pub timelines_released : List Live → Batch → List Live
timelines_released ts b = installed_all (held_all ts b.waits) b.signals

-- the first held-back batch, or an empty one
abbrev pub next_batch : Queue → Batch
next_batch q = slice_index_or q.batches q.released no_batch

abbrev pub after_release : List Live → Queue → Queue
after_release ts q =
    record {
      batches = slice_set q.batches q.released (batch_released ts (next_batch q));
      released = q.released + 1;
    }

-- the oldest released batch
abbrev pub oldest_of : ℕ → List Batch → Option Batch
oldest_of released [] = None
oldest_of released (b ∷ bs) = if released == 0 then None else Some b

abbrev pub oldest : Queue → Option Batch
oldest q = oldest_of q.released q.batches

abbrev pub after_finish : Queue → Queue
after_finish q = record { batches = drop 1 q.batches; released = q.released - 1 }

abbrev pub timelines_finished : List Live → Option Batch → List Live
timelines_finished ts None = ts
timelines_finished ts (Some b) = returned_all ts b.waits

-- the batch that was submitted last, if it is held back; the queue without it
abbrev pub newest : Queue → Batch
newest q = slice_index_or q.batches (length q.batches - 1) no_batch

abbrev pub newest_held_back : Queue → Option Batch
newest_held_back q = if nat_lt q.released (length q.batches) then Some (newest q) else None

abbrev pub after_take_back : Queue → Queue
after_take_back q = record q { batches = take (length q.batches - 1) q.batches }

-- whether a batch that isn't finished names a timeline
abbrev pub names : ℕ → Batch → Bool
names n b = if waits_name n b.waits then true else signals_name n b.signals

abbrev pub some_names : ℕ → List Batch → Bool
some_names n [] = false
some_names n (b ∷ bs) = if names n b then true else some_names n bs

abbrev pub first_naming : ℕ → ℕ → List Queue → Option ℕ
first_naming n i [] = None
first_naming n i (q ∷ qs) = if some_names n q.batches then Some i else first_naming n (i + 1) qs

-- what is left of the references of a point without those of released batches
abbrev pub left_by_batches : ℕ → ℕ → ℕ → List Batch → ℕ
left_by_batches n p left [] = left
left_by_batches n p left (b ∷ bs) = left_by_batches n p (left_by_waits n p left b.waits) bs

abbrev pub left_by_queues : ℕ → ℕ → ℕ → List Queue → ℕ
left_by_queues n p left [] = left
left_by_queues n p left (q ∷ qs) = left_by_queues n p (left_by_batches n p left (take q.released q.batches)) qs

-- whether a held-back batch signals a value of a timeline or a greater one
abbrev pub brings : Wanted → Signal → Bool
brings w s = nat_eq s.timeline w.timeline && nat_le w.value s.given.value

abbrev pub signals_bring : Wanted → List Signal → Bool
signals_bring w [] = false
signals_bring w (s ∷ ss) = if brings w s then true else signals_bring w ss

abbrev pub batches_bring : Wanted → List Batch → Bool
batches_bring w [] = false
batches_bring w (b ∷ bs) = if signals_bring w b.signals then true else batches_bring w bs

abbrev pub queues_bring : Wanted → List Queue → Bool
queues_bring w [] = false
queues_bring w (q ∷ qs) = if batches_bring w (drop q.released q.batches) then true else queues_bring w qs

-- the first wait for a value that is neither past nor pending and that no held-back batch signals
abbrev pub is_missing : List Live → List Queue → Wanted → Bool
is_missing ts qs w = is_not_yet (found_in ts w) && not (queues_bring w qs)

abbrev pub first_missing : List Live → List Queue → List Wait → Option Wanted
first_missing ts qs [] = None
first_missing ts qs (w ∷ ws) = if is_missing ts qs w.wanted then Some w.wanted else first_missing ts qs ws

abbrev pub missing_of : List Live → List Queue → Option Batch → Option Wanted
missing_of ts qs None = None
missing_of ts qs (Some b) = first_missing ts qs b.waits

-- the first queue that is ready
abbrev pub ready_or : Option Blocked → ℕ → Option ℕ → Option ℕ
ready_or None n later = Some n
ready_or (Some cause) n later = later

abbrev pub first_ready : List Live → ℕ → List Queue → Option ℕ
first_ready ts i [] = None
first_ready ts i (q ∷ qs) = ready_or (blocked ts q) i (first_ready ts (i + 1) qs)
