-- What ties the held-back batches to what is taken on timelines: each operation that is taken and not installed is a signal
-- of exactly one of them.
use Rattle.std.specs.Prelude.{ℕ, Bool, true, false, List, [], ◌∷◌, ◌≡◌, ◌≤◌, ◌+◌, ◌&&◌, drop, length, nat_eq}
use Rattle.vq_live.specs.declared.answers.Given.{Given}
use Rattle.vq_live.specs.Live.{Live, one_if, taken}
use Rattle.vq_live.specs.Calls.{is_same}
use Rattle.vq_layer.specs.declared.answers.Signal.{Signal}
use Rattle.vq_layer.specs.Layer.{Layer, Batch, Queue, live_at, kind_at, queue_at}
use Rattle.vq_layer.specs.Names.{signals_name, is_closed}

-- how often an operation is among these
abbrev pub count_in : Given → List Given → ℕ
count_in x [] = 0
count_in x (y ∷ ys) = one_if (is_same y x) + count_in x ys

-- how often an operation of a timeline is signaled by these, by these batches, and by what queues hold back
abbrev pub is_signal : ℕ → Given → Signal → Bool
is_signal n x s = nat_eq s.timeline n && is_same s.given x

abbrev pub count_signals : ℕ → Given → List Signal → ℕ
count_signals n x [] = 0
count_signals n x (s ∷ ss) = one_if (is_signal n x s) + count_signals n x ss

abbrev pub count_batches : ℕ → Given → List Batch → ℕ
count_batches n x [] = 0
count_batches n x (b ∷ bs) = count_signals n x b.signals + count_batches n x bs

abbrev pub count_held : ℕ → Given → Queue → ℕ
count_held n x q = count_batches n x (drop q.released q.batches)

abbrev pub count_queues : ℕ → Given → List Queue → ℕ
count_queues n x [] = 0
count_queues n x (q ∷ qs) = count_held n x q + count_queues n x qs

-- no two signals of a batch are of one timeline
abbrev pub SignalApart : List Signal → Type 0
SignalApart [] = Unit {0}
SignalApart (s ∷ ss) = (signals_name s.timeline ss ≡ false) × SignalApart ss

abbrev pub BatchesApart : List Batch → Type 0
BatchesApart [] = Unit {0}
BatchesApart (b ∷ bs) = SignalApart b.signals × BatchesApart bs

-- a queue's batches are so, and no more are released than there are
pub record IsFine (q : Queue) : Type 0 where
  pub within : q.released ≤ length q.batches
  pub apart : BatchesApart q.batches

-- What is taken on a timeline is what the held-back batches signal on it, each as often; and none signals what is closed.
pub record IsTied (l : Layer) : Type 0 where
  pub tied : (n : ℕ) → (x : Given) → count_in x (taken (live_at l.timelines n)) ≡ count_queues n x l.queues
  pub closed : (n : ℕ) → (x : Given) → is_closed (kind_at l.kinds n) ≡ true → count_queues n x l.queues ≡ 0
  pub fine : (q : ℕ) → IsFine (queue_at l.queues q)
