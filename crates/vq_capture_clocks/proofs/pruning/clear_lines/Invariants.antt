use Rattle.std.proofs.Common.{◌≡◌, ◌-◌, ℕ, length, get_or}
use Rattle.vq_capture_clocks.specs.Blocks.{line_at}
use Rattle.vq_capture_clocks.specs.Clocks.{TellsAs}
use Rattle.vq_capture_clocks.proofs.pruning.clear_lines.Given as goal

abbrev pub invariant-loop-place : goal.invariant-loop-place
invariant-loop-place l =
    (length l.lines ≡ length l.fn.lines)
    × ((next : ℕ) → TellsAs (λ p. get_or l.least p next) (line_at l.lines) (line_at l.fn.lines))

abbrev pub decreases-loop-place : goal.decreases-loop-place
decreases-loop-place l = length l.lines - l.place
