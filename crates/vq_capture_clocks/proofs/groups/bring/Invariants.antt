use Rattle.std.proofs.Common.{◌≤◌, ◌-◌, length}
use Rattle.vq_capture_clocks.specs.Blocks.{says}
use Rattle.vq_capture_clocks.specs.Cells.{IsBringing}
use Rattle.vq_capture_clocks.proofs.groups.bring.Given as goal

abbrev pub invariant-loop-state : goal.invariant-loop-state
invariant-loop-state l =
    (l.state.at ≤ length l.groups.items)
    × IsBringing l.fn.groups.items l.set (says l.clock) l.groups.items l.state.at l.state.left l.state.same

abbrev pub decreases-loop-state : goal.decreases-loop-state
decreases-loop-state l = length l.groups.items - l.state.at
