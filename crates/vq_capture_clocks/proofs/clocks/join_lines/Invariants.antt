use Rattle.std.proofs.Common.{◌≡◌, ◌≤◌, ◌-◌, length}
use Rattle.vq_capture_clocks.specs.Blocks.{line_at}
use Rattle.vq_capture_clocks.proofs.Joined.{joined_to}
use Rattle.vq_capture_clocks.proofs.clocks.join_lines.Given as goal

-- the lanes above this one are joined
abbrev pub invariant-loop-place : goal.invariant-loop-place
invariant-loop-place l =
    (l.place ≤ length l.other)
    × (length l.other ≤ length l.lines)
    × (line_at l.lines ≡ joined_to (line_at l.fn.lines) (line_at l.other) l.place)

abbrev pub decreases-loop-place : goal.decreases-loop-place
decreases-loop-place l = length l.other - l.place
