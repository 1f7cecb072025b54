use Rattle.vq_replay.proofs.Rosters.{submits_more}
use Rattle.vq_replay.proofs.roster.push_submits.Goals as goal

pub loop-queue-preserved : goal.loop-queue-preserved
loop-queue-preserved c =
    submits_more c.args.actors.now.items c.loop-queue.actors.items c.push_submit.new.actors.items c.loop-queue.queue
    c.args.script.now c.loop-queue.invariant (c.in_ok-push_submit.ensures {u = tt})
