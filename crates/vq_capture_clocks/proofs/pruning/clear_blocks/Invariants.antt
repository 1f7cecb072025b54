use Rattle.std.proofs.Common.{◌-◌, length}
use Rattle.vq_capture_clocks.specs.Blocks.{says}
use Rattle.vq_capture_clocks.specs.Clocks.{TellsAs}
use Rattle.vq_capture_clocks.specs.Least.{least_in}
use Rattle.vq_capture_clocks.proofs.pruning.clear_blocks.Given as goal

abbrev pub invariant-loop-at : goal.invariant-loop-at
invariant-loop-at l = TellsAs (least_in l.least) (says l.clock.items) (says l.fn.clock.items)

abbrev pub decreases-loop-at : goal.decreases-loop-at
decreases-loop-at l = length l.clock.items - l.at
