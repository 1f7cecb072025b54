use Rattle.vq_capture_clocks.specs.Blocks.{says}
use Rattle.vq_capture_clocks.proofs.Leveled.{tells_of_twice}
use Rattle.vq_capture_clocks.proofs.levels.level.Goals as goal

pub loop-at-preserved : goal.loop-at-preserved
loop-at-preserved c =
    tells_of_twice c.args.lines.now c.args.next (says c.level_block.new.clock.items) (says c.loop-at.clock.items) (says c.args.clock.now.items) c.level_block.ensures.same c.loop-at.invariant
