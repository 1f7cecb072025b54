use Rattle.std.proofs.Common.{◌≡◌, ◌≤◌, ◌-◌, length, take, false}
use Rattle.vq_capture_clocks.specs.Cells.{hold}
use Rattle.vq_capture_clocks.proofs.groups.cell_at.Given as goal

abbrev pub invariant-loop-at : goal.invariant-loop-at
invariant-loop-at l = (l.at ≤ length l.groups) × (hold (take l.at l.groups) l.place ≡ false)

abbrev pub decreases-loop-at : goal.decreases-loop-at
decreases-loop-at l = length l.groups - l.at
