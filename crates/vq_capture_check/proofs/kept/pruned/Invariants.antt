use Rattle.std.proofs.Common.{◌≡◌, ◌<◌, ℕ}
use Rattle.vq_capture_check.specs.Alike.{TellsAsked}
use Rattle.vq_capture_check.specs.Clocks.{no_clock}
use Rattle.vq_capture_check.specs.Least.{least_in}
use Rattle.vq_capture_check.specs.Watches.{kept_of}
use Rattle.vq_capture_check.proofs.kept.pruned.Given as goal

-- what is kept on of the lines so far tells the same, and none of it stands above the highest
abbrev pub invariant-loop-kept : goal.invariant-loop-kept
invariant-loop-kept l =
    ((m : ℕ) → l.highest < m → kept_of l.now.items m ≡ no_clock)
    × ((m : ℕ) → TellsAsked (least_in l.least) l.touched l.next (kept_of l.now.items m) (kept_of l.yielded m))
