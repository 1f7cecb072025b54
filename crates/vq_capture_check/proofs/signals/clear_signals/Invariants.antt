use Rattle.std.proofs.Common.{◌≡◌, ◌≤◌, ◌-◌, ℕ, length, map}
use Rattle.vq_capture_check.specs.Alike.{telling_of}
use Rattle.vq_capture_check.specs.Least.{least_in}
use Rattle.vq_capture_check.specs.Watches.{signals_of}
use Rattle.vq_capture_check.proofs.signals.clear_signals.Given as goal

abbrev pub invariant-loop-place : goal.invariant-loop-place
invariant-loop-place l =
    (line lane : ℕ) → least_in l.least lane ≤ line →
    map (telling_of line lane) (signals_of l.signals.items) ≡ map (telling_of line lane) (signals_of l.fn.signals.items)

abbrev pub decreases-loop-place : goal.decreases-loop-place
decreases-loop-place l = length l.signals.items - l.place
