-- The references of released batches to a point.
use Rattle.std.specs.Prelude.{ℕ, List, [], ◌∷◌, ◌≡◌, ◌≤◌, ◌+◌, false, take}
use Rattle.vq_live.specs.Live.{Live, slot_at, one_if}
use Rattle.vq_live.specs.Calls.{next_point}
use Rattle.vq_layer.specs.declared.answers.Wait.{Wait}
use Rattle.vq_layer.specs.Layer.{Layer, Batch, Queue, live_at}
use Rattle.vq_layer.specs.Waits.{holds}

-- how often a point of a timeline is held by these waits, by these batches, and by the released batches of queues
abbrev pub held_by_waits : ℕ → ℕ → List Wait → ℕ
held_by_waits n p [] = 0
held_by_waits n p (w ∷ ws) = one_if (holds n p w) + held_by_waits n p ws

abbrev pub held_by_batches : ℕ → ℕ → List Batch → ℕ
held_by_batches n p [] = 0
held_by_batches n p (b ∷ bs) = held_by_waits n p b.waits + held_by_batches n p bs

abbrev pub held_by_queue : ℕ → ℕ → Queue → ℕ
held_by_queue n p q = held_by_batches n p (take q.released q.batches)

abbrev pub held_by_queues : ℕ → ℕ → List Queue → ℕ
held_by_queues n p [] = 0
held_by_queues n p (q ∷ qs) = held_by_queue n p q + held_by_queues n p qs

-- how many references a point of a timeline has
abbrev pub refs_at : List Live → ℕ → ℕ → ℕ
refs_at ts n p = (slot_at (live_at ts n).slots p).refs

-- Each reference of a released batch is counted at its point.
abbrev pub AreReferred : Layer → Type 0
AreReferred l = (n p : ℕ) → held_by_queues n p l.queues ≤ refs_at l.timelines n p

-- The point that a take of a timeline would give next carries nothing, and neither a released batch nor the host holds it.
pub record IsUnreferred (l : Layer) (n : ℕ) : Type 0 where
  pub carries_none : (slot_at (live_at l.timelines n).slots (next_point (live_at l.timelines n))).out ≡ false
  pub held_by_none : held_by_queues n (next_point (live_at l.timelines n)) l.queues ≡ 0
  pub referred_by_none : refs_at l.timelines n (next_point (live_at l.timelines n)) ≡ 0
