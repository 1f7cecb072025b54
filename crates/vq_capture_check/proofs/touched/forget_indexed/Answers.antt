use Rattle.vq_capture_touched.specs.Indexed.{touches_of}
use Rattle.vq_capture_check.proofs.Forgotten.{forgets_more, forgets_none}
use Rattle.vq_capture_check.proofs.touched.forget_indexed.Goals as goal

pub loop-w-init : goal.loop-w-init
loop-w-init c = forgets_none c.args.step.now c.args.newest.now (touches_of c.args.index.now)

pub loop-w-preserved : goal.loop-w-preserved
loop-w-preserved c =
    forgets_more c.args.step.now c.args.newest.now c.loop-w.w-index _ (touches_of c.args.index.now) (touches_of c.loop-w.index)
    (touches_of c.forget.new.self) c.requires c.loop-w-test.true c.loop-w.invariant c.in_ok-forget.ensures
