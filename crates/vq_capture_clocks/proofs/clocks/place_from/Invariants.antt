use Rattle.std.proofs.Common.{length, ◌-◌}
use Rattle.vq_capture_clocks.proofs.clocks.place_from.Given as goal

abbrev pub decreases-loop-place : goal.decreases-loop-place
decreases-loop-place l = length l.clock - l.place
