use Rattle.std.proofs.Common.{length}
use Rattle.vq_hosts.proofs.Joining.{repeated}
use Rattle.vq_hosts.proofs.origins.push_batch_line.Goals as goal

pub loop-2-preserved : goal.loop-2-preserved
loop-2-preserved c =
    repeated c.args.lines.now.items c.loop-2.lines.items c.push-in-loop-2.new.self.items c.args.batch.now.line
    (length c.args.batch.now.waits) c.loop-2.counter c.loop-2.invariant c.in_ok-push-2.ensures.items
