use Rattle.std.proofs.Common.{◌≡◌, ◌-◌, ◌+◌, ℕ, length}
use Rattle.vq_capture_clocks.specs.Gone.{gone_at}
use Rattle.vq_capture_clocks.proofs.gone.reach.Given as goal

abbrev pub invariant-loop-gone : goal.invariant-loop-gone
invariant-loop-gone l = (n : ℕ) → gone_at l.gone.items n ≡ gone_at l.fn.gone.items n

abbrev pub decreases-loop-gone : goal.decreases-loop-gone
decreases-loop-gone l = l.number + 1 - length l.gone.items
