use Rattle.std.proofs.Common.{◌<◌}
use Rattle.vq_model.specs.declared.script.Batch.{Batch}
use Rattle.vq_hosts.specs.Batches.{behind}
use Rattle.vq_hosts.proofs.Joining.{all_left, moved}
use Rattle.vq_hosts.proofs.joined.jobs_behind.Goals as goal

pub loop-batch-preserved : goal.loop-batch-preserved
loop-batch-preserved c =
    let rest = c.loop-batch.batch-iterator.rest.items in
    let left = c.next.new.self.rest.items in
    let first = c.in-Some.ensures.steps.0 in
    record {
      joined = moved (behind c.args.count) c.loop-batch.jobs.items c.push.new.self.items _ rest left c.in-Some.batch
          c.behind.result c.loop-batch.invariant.joined first c.behind.ensures c.in_ok-push.ensures.items;
      small = all_left (λ (b : Batch). b.queue < 16) rest left c.in-Some.batch c.loop-batch.invariant.small first;
    }
