-- What the threads, as they are read, keep of what was told.
use Rattle.std.specs.Prelude.{◌≡◌, map}
use Rattle.vq_blocks.specs.Blocks.{Told}
use Rattle.vq_blocks.specs.Compiled.{queue_of_thread}
use Rattle.vq_hosts.specs.StepBatches.{thread_batches}
use Rattle.vq_hosts.specs.declared.threads.Threads.{Threads}

-- the queues and batches of the threads, and whether a block is open
pub record HasThreads (told : Told) (kept : Threads) : Type 0 where
  pub all_queues : kept.queues.items ≡ map queue_of_thread told.threads
  pub all_batches : kept.batches.items ≡ thread_batches 0 told.threads
  pub is_inside : kept.inside ≡ told.inside
