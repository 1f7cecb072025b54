use Rattle.std.proofs.Common.{◌≡◌, ◌<◌, ◌-◌, ℕ, false, length}
use Rattle.vq_capture_clocks.specs.Cells.{cell_in}
use Rattle.vq_capture_clocks.specs.Gone.{gone_place}
use Rattle.vq_capture_clocks.proofs.groups.leave_groups.Given as goal

abbrev pub invariant-loop-at : goal.invariant-loop-at
invariant-loop-at l = (p : ℕ) → p < 15 → gone_place l.gone p ≡ false → cell_in l.groups.items p ≡ cell_in l.fn.groups.items p

abbrev pub decreases-loop-at : goal.decreases-loop-at
decreases-loop-at l = length l.groups.items - l.at
