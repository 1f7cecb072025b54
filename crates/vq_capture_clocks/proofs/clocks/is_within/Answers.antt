use Rattle.vq_capture_clocks.specs.Blocks.{says}
use Rattle.vq_capture_clocks.proofs.BlockLists.{below_next}
use Rattle.vq_capture_clocks.proofs.clocks.is_within.Goals as goal

pub loop-block-preserved : goal.loop-block-preserved
loop-block-preserved c =
    below_next c.args.clock.now c.loop-block.block-index _ (says c.args.other.now) c.loop-block-test.true c.loop-block.invariant (c.block_within.ensures c.if-not-block_within.false)
