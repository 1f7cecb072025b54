use Rattle.std.proofs.Common.{◌-◌, ℕ, length}
use Rattle.vq_capture_clocks.specs.Cells.{cell_in}
use Rattle.vq_capture_clocks.specs.Clocks.{TellsAs}
use Rattle.vq_capture_clocks.specs.Least.{least_in}
use Rattle.vq_capture_clocks.proofs.groups.clear_groups.Given as goal

abbrev pub invariant-loop-at : goal.invariant-loop-at
invariant-loop-at l = (p : ℕ) → TellsAs (least_in l.least) (cell_in l.groups.items p) (cell_in l.fn.groups.items p)

abbrev pub decreases-loop-at : goal.decreases-loop-at
decreases-loop-at l = length l.groups.items - l.at
