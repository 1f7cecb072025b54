use Rattle.std.proofs.Common.{map, rules}
use Rattle.vq_capture_check.specs.Watches.{clocking_of}
use Rattle.vq_capture_check.proofs.LooseFound.{fast_all, fast_more}
use Rattle.vq_capture_check.proofs.loose.none_loose.Goals as goal

pub loop-stamp-preserved : goal.loop-stamp-preserved
loop-stamp-preserved c =
    fast_more c.args.cut (map clocking_of c.args.points.now) c.args.b.now c.args.index.now.touches c.args.stamps.now c.loop-stamp.stamp-index 0
    c.loop-stamp-test.true c.loop-stamp.invariant (c.is_fast.ensures (search rules))

pub returns : goal.returns
returns c = λ true.
    fast_all c.args.cut (map clocking_of c.args.points.now) c.args.b.now c.args.index.now.touches c.loop-stamp.stamp-index c.args.stamps.now
    (search rules) c.loop-stamp.invariant
