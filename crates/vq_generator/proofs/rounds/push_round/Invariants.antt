use Rattle.std.proofs.Common.{◌≡◌, ◌++◌, map}
use Rattle.std.specs.List.{range_with_len}
use Rattle.vq_generator.specs.Generated.{generated_batch}
use Rattle.vq_generator.proofs.rounds.push_round.Given as goal

abbrev pub invariant-loop-queue : goal.invariant-loop-queue
invariant-loop-queue l =
    l.jobs.items ≡ l.fn.jobs.items ++ map (generated_batch l.round) (range_with_len 0 l.queue)
