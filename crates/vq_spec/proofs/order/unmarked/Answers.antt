use Rattle.vq_spec.proofs.SlowLeft.{left_push}
use Rattle.vq_spec.proofs.order.unmarked.Goals as goal

pub loop-j-preserved : goal.loop-j-preserved
loop-j-preserved c =
    left_push c.args.marks.now c.loop-j.j c.loop-j.jobs.items c.push_left.new.jobs.items c.loop-j.invariant (c.in_ok-push_left.ensures {u = tt})
