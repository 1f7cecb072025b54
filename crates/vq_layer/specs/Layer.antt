-- The state of a live layer.
use Rattle.std.specs.Prelude.{ℕ, List, [], ◌≡◌}
use Rattle.std.specs.List.{slice_index_or}
use Rattle.vq_live.specs.Live.{Live, opened}
use Rattle.vq_layer.specs.declared.answers.Wait.{Wait}
use Rattle.vq_layer.specs.declared.answers.Signal.{Signal}
use Rattle.vq_layer.specs.declared.answers.Kind.{Kind}
use Rattle.vq_layer.specs.declared.answers.Kind.TheVariants.{Closed}

-- A batch: the caller's token, what it waits for, and what it signals.
pub record Batch : Type 0 where
  pub token : ℕ
  pub waits : List Wait
  pub signals : List Signal

-- A queue: its batches that aren't finished, in the order of their submission; the first ones are released.
pub record Queue : Type 0 where
  pub batches : List Batch
  pub released : ℕ

pub record Layer : Type 0 where
  -- the timelines by number, and what each number stands for
  pub timelines : List Live
  pub kinds : List Kind
  pub queues : List Queue
  -- how many waits the batches have that aren't finished
  pub waits : ℕ

abbrev pub no_layer : Layer
no_layer = record { timelines = []; kinds = []; queues = []; waits = 0 }

abbrev pub no_batch : Batch
no_batch = record { token = 0; waits = []; signals = [] }

-- a timeline, what a number stands for, and a queue, by number
abbrev pub live_at : List Live → ℕ → Live
live_at timelines n = slice_index_or timelines n (opened 0)

abbrev pub kind_at : List Kind → ℕ → Kind
kind_at kinds n = slice_index_or kinds n Closed

abbrev pub no_queue : Queue
no_queue = record { batches = []; released = 0 }

abbrev pub queue_at : List Queue → ℕ → Queue
queue_at queues n = slice_index_or queues n no_queue

-- nothing is reserved between calls
abbrev pub AreBare : List Live → Type 0
AreBare timelines = (n : ℕ) → (live_at timelines n).reserved ≡ 0
