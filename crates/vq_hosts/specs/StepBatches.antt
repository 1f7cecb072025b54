-- The batches of threads, before their queues are numbered behind those of the rest.
use Rattle.std.specs.Prelude.{ℕ, List, [], None, map}
use Rattle.std.specs.List.{enumerate_from, flat_map}
use Rattle.vq_model.specs.declared.script.Batch.{Batch}
use Rattle.vq_model.specs.ScriptOfLines.{mark}
use Rattle.vq_blocks.specs.declared.block.HostThread.{HostThread}
use Rattle.vq_blocks.specs.declared.block.ThreadLine.{ThreadLine}
use Rattle.vq_blocks.specs.Blocks.{waited_by, signaled_by}

-- the batch of a step, on a queue
abbrev pub step_batch : ℕ → ThreadLine → Batch
step_batch queue x =
    record {
      line = x.line;
      queue = queue;
      waits = map (λ pair. mark x.line pair 1) (waited_by x.step);
      commands = [];
      signals = map (λ pair. mark x.line pair 1) (signaled_by x.step);
      fence = None;
    }

-- the batches of threads whose queues are numbered from this one on, thread by thread
abbrev pub thread_batches : ℕ → List HostThread → List Batch
thread_batches first threads = flat_map (λ x. map (step_batch x.0) x.1.steps) (enumerate_from first threads)
