use Rattle.vq_capture_touched.proofs.IndexLists.{forgets_more}
use Rattle.vq_capture_touched.proofs.index.TouchIndex.forget_some.Goals as goal

pub loop-stamp-preserved : goal.loop-stamp-preserved
loop-stamp-preserved c =
    forgets_more c.args.w.now c.args.self.now.touches c.loop-stamp.self.touches c.forget_one.new.self.touches c.args.stamps.now
    c.loop-stamp.stamp-index 0 c.loop-stamp-test.true c.loop-stamp.invariant c.forget_one.ensures
