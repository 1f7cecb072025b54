use Rattle.std.proofs.Common.{◌+◌, ◌-◌, ◌<◌, ◌≤◌, ℕ, get_or, length}
use Rattle.vq_capture_touched.proofs.kind.greatest.Given as goal

-- the greatest so far
abbrev pub invariant-loop-at : goal.invariant-loop-at
invariant-loop-at l =
    (l.last < length l.lines) × ((k d : ℕ) → l.first ≤ k → k < l.at → get_or l.lines k d ≤ l.line)

abbrev pub decreases-loop-at : goal.decreases-loop-at
decreases-loop-at l = l.last + 1 - l.at
