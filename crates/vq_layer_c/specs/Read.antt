-- What is read of the batches of a queue.
use Rattle.std.specs.Prelude.{ℕ, ◌≡◌, List, length, Option, Some, None}
use Rattle.std.specs.List.{slice_get}
use Rattle.vq_layer.specs.declared.answers.Wait.{Wait}
use Rattle.vq_layer.specs.declared.answers.Signal.{Signal}
use Rattle.vq_layer.specs.Layer.{Layer, Queue, Batch}
use Rattle.vq_layer_c.specs.declared.reply.Reply.TheVariants as call_as
use Rattle.vq_layer_c.specs.declared.answer.Answer.{Answer}
use Rattle.vq_layer_c.specs.declared.answer.PointRow.{PointRow}
use Rattle.vq_layer_c.specs.Asked.{HasAsked}
use Rattle.vq_layer_c.specs.Told.{said, told, with_front_of, fit_reply}

-- of a queue, if there is one with this number: how many batches it has, and how many of these are released
abbrev pub of_queue : (Queue → ℕ) → Option Queue → Answer
of_queue count None = said call_as.NoQueue
of_queue count (Some q) = told call_as.Done 0 (count q)

abbrev pub batches_answer : ℕ → Layer → Answer
batches_answer queue l = of_queue (λ q. length q.batches) (slice_get l.queues queue)

abbrev pub released_answer : ℕ → Layer → Answer
released_answer queue l = of_queue (λ q. q.released) (slice_get l.queues queue)

-- of the batch in this place, if there is one
abbrev pub of_batch : {A : Type 0} → A → (Batch → A) → Option Batch → A
of_batch none of None = none
of_batch none of (Some b) = of b

abbrev pub in_queue : {A : Type 0} → A → A → (Batch → A) → ℕ → Option Queue → A
in_queue no_queue no_batch of place None = no_queue
in_queue no_queue no_batch of place (Some q) = of_batch no_batch of (slice_get q.batches place)

abbrev pub token_answer : ℕ → ℕ → Layer → Answer
token_answer queue place l =
    in_queue (said call_as.NoQueue) (said call_as.NoBatch) (λ b. told call_as.Done 0 b.token) place
    (slice_get l.queues queue)

-- the rows of its waits or signals in the front of a room, as many as go in, and how many there are
abbrev pub rows_told : {A : Type 0} → (Batch → List A) → ℕ → ℕ → List PointRow → Layer → Answer
rows_told list_of queue place room l =
    in_queue (said call_as.NoQueue) (said call_as.NoBatch)
    (λ b. told (fit_reply (length (list_of b)) (length room)) 0 (length (list_of b))) place (slice_get l.queues queue)

abbrev pub room_told : {A : Type 0} → (A → PointRow) → (Batch → List A) → ℕ → ℕ → List PointRow → Layer → List PointRow
room_told row_of list_of queue place room l =
    in_queue room room (λ b. with_front_of row_of (list_of b) room) place (slice_get l.queues queue)

abbrev pub signals_of : Batch → List Signal
signals_of b = b.signals

abbrev pub waits_of : Batch → List Wait
waits_of b = b.waits

abbrev pub HasRead : {A : Type 0} → (A → PointRow) → (Batch → List A) → ℕ → ℕ → List PointRow → List PointRow
    → Layer → Layer → Answer → Type 0
HasRead row_of list_of queue place room after l m a =
    (m ≡ l) × (after ≡ room_told row_of list_of queue place room l) × (a ≡ rows_told list_of queue place room l)

-- No layer is held, and the room stays; or they are read.
abbrev pub HasReadOf : {A : Type 0} → (A → PointRow) → (Batch → List A) → ℕ → ℕ → List PointRow → List PointRow
    → Option Layer → Option Layer → Answer → Type 0
HasReadOf row_of list_of queue place room after None m a =
    (m ≡ None) × (after ≡ room) × (a ≡ said call_as.NoHandle)
HasReadOf row_of list_of queue place room after (Some l) m a =
    HasAsked (HasRead row_of list_of queue place room after) (Some l) m a
