use Rattle.std.proofs.Common.{◌≤◌, ◌-◌, length}
use Rattle.vq_capture_clocks.specs.Blocks.{says}
use Rattle.vq_capture_clocks.specs.Cells.{IsTaking}
use Rattle.vq_capture_clocks.proofs.groups.take_groups.Given as goal

abbrev pub invariant-loop-at : goal.invariant-loop-at
invariant-loop-at l = (l.at ≤ length l.groups) × IsTaking l.groups l.set (says l.fn.clock.items) l.at l.left (says l.clock.items)

abbrev pub decreases-loop-at : goal.decreases-loop-at
decreases-loop-at l = length l.groups - l.at
