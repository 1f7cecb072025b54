use Rattle.vq_capture_clocks.proofs.Cleared.{none_more_at}
use Rattle.vq_capture_clocks.proofs.groups.says_nothing.Goals as goal

pub loop-group-preserved : goal.loop-group-preserved
loop-group-preserved c =
    none_more_at c.args.groups.now c.loop-group.group-index c.group-item.result c.loop-group-test.true c.group-item.is c.loop-group.invariant (c.is_nothing.ensures c.if-not-is_nothing.false)
