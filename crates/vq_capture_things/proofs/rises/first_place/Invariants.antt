use Rattle.std.proofs.Common.{ℕ, ◌<◌, ◌≤◌, ◌-◌, length, get_or}
use Rattle.vq_capture_things.specs.declared.rise.Rise.{Rise}
use Rattle.vq_capture_things.proofs.rises.first_place.Given as goal

-- those before are below the value, and those from here on reach it
abbrev pub invariant-loop-low : goal.invariant-loop-low
invariant-loop-low l =
    (l.low ≤ l.high) × (l.high ≤ length l.rises)
    × ((k : ℕ) (d : Rise) → k < l.low → (get_or l.rises k d).value < l.value)
    × ((k : ℕ) (d : Rise) → l.high ≤ k → k < length l.rises → l.value ≤ (get_or l.rises k d).value)

abbrev pub decreases-loop-low : goal.decreases-loop-low
decreases-loop-low l = l.high - l.low
