-- What a layer waits for in which no queue is ready.
use Rattle.std.specs.Prelude.{ℕ, List, [], ◌∷◌, ◌≡◌, ◌⊎◌, ◌<◌, ◌≤◌, drop, None}
use Rattle.vq_live.specs.declared.answers.Found.TheVariants as found_as
use Rattle.vq_layer.specs.declared.answers.Wanted.{Wanted}
use Rattle.vq_layer.specs.declared.answers.Wait.{Wait}
use Rattle.vq_layer.specs.declared.answers.Signal.{Signal}
use Rattle.vq_layer.specs.Layer.{Layer, Batch, queue_at}
use Rattle.vq_layer.specs.Waits.{found_in}
use Rattle.vq_layer.specs.Calls.{blocked_of}

abbrev pub IsAmong : {X : Type 0} → X → List X → Type 0
IsAmong x [] = ⊥
IsAmong x (y ∷ ys) = (y ≡ x) ⊎ IsAmong x ys

-- the batches of a queue that are held back, in order
abbrev pub held_back_in : Layer → ℕ → List Batch
held_back_in l q = drop (queue_at l.queues q).released (queue_at l.queues q).batches

abbrev pub IsHeldBack : Layer → ℕ → Batch → Type 0
IsHeldBack l q b = IsAmong b (held_back_in l q)

-- the first one
pub record IsFirst (l : Layer) (q : ℕ) (b : Batch) : Type 0 where
  pub rest : List Batch
  pub first : held_back_in l q ≡ b ∷ rest

-- no queue is ready
abbrev pub IsStuck : Layer → Type 0
IsStuck l = (q : ℕ) → blocked_of l q ≡ None → ⊥

-- a held-back batch of a queue signals a value of a timeline or a greater one
pub record Brings (l : Layer) (r : ℕ) (w : Wanted) : Type 0 where
  pub batch : Batch
  pub held : IsHeldBack l r batch
  pub signal : Signal
  pub its : IsAmong signal batch.signals
  pub of_timeline : signal.timeline ≡ w.timeline
  pub enough : w.value ≤ signal.given.value

-- a held-back batch of a queue signals a smaller value of a timeline
pub record ComesBefore (l : Layer) (r : ℕ) (s : Signal) : Type 0 where
  pub batch : Batch
  pub held : IsHeldBack l r batch
  pub signal : Signal
  pub its : IsAmong signal batch.signals
  pub of_timeline : signal.timeline ≡ s.timeline
  pub less : signal.given.value < s.given.value

-- a wait of a queue's first held-back batch for a value that is neither past nor pending
pub record Awaits (l : Layer) (q : ℕ) (w : Wanted) : Type 0 where
  pub batch : Batch
  pub first : IsFirst l q batch
  pub wait : Wait
  pub its : IsAmong wait batch.waits
  pub for_it : wait.wanted ≡ w
  pub stands : found_in l.timelines w ≡ found_as.NotYet

-- a signal of a queue's first held-back batch
pub record Signals (l : Layer) (q : ℕ) (s : Signal) : Type 0 where
  pub batch : Batch
  pub first : IsFirst l q batch
  pub its : IsAmong s batch.signals

-- One queue waits for another: its first held-back batch waits for what a held-back batch of the other one signals, or
-- signals a value behind a smaller one that a held-back batch of the other one signals.
pub data WaitsFor (l : Layer) (q r : ℕ) : Type 0 where
  by_wait : (w : Wanted) → Awaits l q w → Brings l r w → WaitsFor l q r
  by_signal : (s : Signal) → Signals l q s → ComesBefore l r s → WaitsFor l q r

-- a value that a queue waits for and that no held-back batch signals
pub record IsMissing (l : Layer) : Type 0 where
  pub queue : ℕ
  pub wanted : Wanted
  pub awaits : Awaits l queue wanted
  pub none : (r : ℕ) → Brings l r wanted → ⊥

-- queues each of which waits for the one before it in this list, and one that stands in it twice: so they wait in a ring
abbrev pub IsChain : Layer → List ℕ → Type 0
IsChain l [] = Unit {0}
IsChain l (q ∷ []) = Unit {0}
IsChain l (r ∷ q ∷ qs) = WaitsFor l q r × IsChain l (q ∷ qs)

abbrev pub StandsTwice : List ℕ → Type 0
StandsTwice [] = ⊥
StandsTwice (q ∷ qs) = IsAmong q qs ⊎ StandsTwice qs

pub record HasRing (l : Layer) : Type 0 where
  pub chain : List ℕ
  pub waits : IsChain l chain
  pub twice : StandsTwice chain
