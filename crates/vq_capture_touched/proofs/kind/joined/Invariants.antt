use Rattle.std.proofs.Common.{◌≡◌, ◌-◌, ◌/◌, ◌<◌, ◌≤◌, ℕ, get_or, length}
use Rattle.vq_capture_touched.proofs.kind.joined.Given as goal

-- the longer parts so far
abbrev pub invariant-loop-part : goal.invariant-loop-part
invariant-loop-part l =
    (length l.all.items ≡ l.part)
    × ((k n : ℕ) → k / l.times < l.part → n ≤ l.latest → n ≤ get_or l.lines k l.latest → n ≤ get_or l.all.items (k / l.times) l.latest)

abbrev pub decreases-loop-part : goal.decreases-loop-part
decreases-loop-part l = 256 - l.part
