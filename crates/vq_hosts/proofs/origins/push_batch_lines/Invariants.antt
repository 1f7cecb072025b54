use Rattle.std.proofs.Common.{◌≡◌, ◌++◌, drop}
use Rattle.std.specs.List.{flat_map}
use Rattle.vq_hosts.specs.Batches.{lines_of_batch}
use Rattle.vq_hosts.proofs.origins.push_batch_lines.Given as goal

abbrev pub invariant-loop-batch : goal.invariant-loop-batch
invariant-loop-batch l =
    l.lines.items ++ flat_map lines_of_batch (drop l.batch-index l.batches)
    ≡ l.fn.lines.items ++ flat_map lines_of_batch l.batches
