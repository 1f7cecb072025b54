use Rattle.vq_replay.proofs.Rosters.{rings_more}
use Rattle.vq_replay.proofs.roster.push_rings.Goals as goal

pub loop-queue-preserved : goal.loop-queue-preserved
loop-queue-preserved c =
    rings_more c.args.actors.now.items c.loop-queue.actors.items c.push.new.self.items c.loop-queue.queue
    c.loop-queue.invariant (c.in_ok-push.ensures {u = tt}).items
