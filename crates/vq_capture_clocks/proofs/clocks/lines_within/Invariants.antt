use Rattle.std.proofs.Common.{◌≤◌, ◌-◌, length}
use Rattle.vq_capture_clocks.proofs.RaisedLines.{AreWithin}
use Rattle.vq_capture_clocks.proofs.clocks.lines_within.Given as goal

abbrev pub invariant-loop-place : goal.invariant-loop-place
invariant-loop-place l = (l.place ≤ length l.lines) × AreWithin l.lines l.other l.place

abbrev pub decreases-loop-place : goal.decreases-loop-place
decreases-loop-place l = length l.lines - l.place
