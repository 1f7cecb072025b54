use Rattle.std.proofs.Common.{◌≡◌, ◌≤◌, take, reverse, length}
use Rattle.vq_capture_check.specs.Watches.{kept_at}
use Rattle.vq_capture_check.proofs.kept.take_line.Given as goal

abbrev pub invariant-loop-left : goal.invariant-loop-left
invariant-loop-left l =
    (l.left ≤ length l.lines)
    × (l.clock.items ≡ l.fn.clock.items)
    × (kept_at (reverse (take l.left l.lines)) l.line ≡ kept_at (reverse l.lines) l.line)

abbrev pub decreases-loop-left : goal.decreases-loop-left
decreases-loop-left l = l.left
