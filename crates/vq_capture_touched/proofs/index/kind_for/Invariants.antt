use Rattle.std.proofs.Common.{◌≤◌, ◌-◌, length}
use Rattle.vq_capture_touched.proofs.index.kind_for.Given as goal

abbrev pub invariant-loop-place : goal.invariant-loop-place
invariant-loop-place l = l.place ≤ length l.kinds

abbrev pub decreases-loop-place : goal.decreases-loop-place
decreases-loop-place l = length l.kinds - l.place
