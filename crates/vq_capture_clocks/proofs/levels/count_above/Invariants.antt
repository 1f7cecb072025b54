use Rattle.std.proofs.Common.{ℕ, ◌<◌, ◌≤◌, ◌-◌, length, get_or}
use Rattle.vq_capture_clocks.proofs.levels.count_above.Given as goal

-- those before are above the line, and none from here on is
abbrev pub invariant-loop-low : goal.invariant-loop-low
invariant-loop-low l =
    (l.low ≤ l.high) × (l.high ≤ length l.lines)
    × ((k d : ℕ) → k < l.low → get_or l.lines k d < l.line)
    × ((k d : ℕ) → l.high ≤ k → k < length l.lines → l.line ≤ get_or l.lines k d)

abbrev pub decreases-loop-low : goal.decreases-loop-low
decreases-loop-low l = l.high - l.low
