use Rattle.std.proofs.Common.{sym}
use Rattle.vq_capture_clocks.specs.Blocks.{says}
use Rattle.vq_capture_clocks.proofs.Joined.{join_nothing}
use Rattle.vq_capture_clocks.proofs.BlockLists.{joined_next, joined_to_end}
use Rattle.vq_capture_clocks.proofs.clocks.join.Goals as goal

pub loop-block-init : goal.loop-block-init
loop-block-init c = sym (join_nothing (says c.args.clock.now.items))

pub loop-block-preserved : goal.loop-block-preserved
loop-block-preserved c =
    joined_next (says c.args.clock.now.items) (says c.join_block.new.clock.items) (says c.loop-block.clock.items) c.args.other.now c.loop-block.block-index _
    c.loop-block-test.true c.loop-block.invariant c.in_ok-place.ensures

pub returns : goal.returns
returns c = joined_to_end (says c.args.clock.now.items) (says c.loop-block.clock.items) c.args.other.now c.loop-block.block-index c.loop-block-test.false c.loop-block.invariant
