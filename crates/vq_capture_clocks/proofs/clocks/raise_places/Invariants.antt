use Rattle.std.proofs.Common.{◌≡◌, ◌≤◌, ◌-◌, length}
use Rattle.vq_capture_clocks.specs.Blocks.{line_at, raised_in}
use Rattle.vq_capture_clocks.proofs.clocks.raise_places.Given as goal

abbrev pub invariant-loop-place : goal.invariant-loop-place
invariant-loop-place l =
    (l.place ≤ length l.lines)
    × (length l.lines ≡ length l.fn.lines)
    × (line_at l.lines ≡ raised_in (line_at l.fn.lines) l.set l.line l.place)

abbrev pub decreases-loop-place : goal.decreases-loop-place
decreases-loop-place l = length l.lines - l.place
