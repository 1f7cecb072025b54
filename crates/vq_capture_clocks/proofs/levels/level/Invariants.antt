use Rattle.std.proofs.Common.{◌-◌, length}
use Rattle.vq_capture_clocks.specs.Blocks.{says}
use Rattle.vq_capture_clocks.specs.Levels.{TellsOf}
use Rattle.vq_capture_clocks.proofs.levels.level.Given as goal

abbrev pub invariant-loop-at : goal.invariant-loop-at
invariant-loop-at l = TellsOf l.lines l.next (says l.clock.items) (says l.fn.clock.items)

abbrev pub decreases-loop-at : goal.decreases-loop-at
decreases-loop-at l = length l.clock.items - l.at
