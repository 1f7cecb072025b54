use Rattle.std.proofs.Common.{◌≡◌, ◌++◌, ◌<◌, All, map}
use Rattle.vq_hosts.specs.Batches.{behind}
use Rattle.vq_hosts.proofs.joined.jobs_behind.Given as goal

abbrev pub invariant-loop-batch : goal.invariant-loop-batch
invariant-loop-batch l = record {
  joined : l.jobs.items ++ map (behind l.count) l.batch-iterator.rest.items ≡ map (behind l.count) l.fn.batches.items;
  small : All (λ b. b.queue < 16) l.batch-iterator.rest.items;
}
