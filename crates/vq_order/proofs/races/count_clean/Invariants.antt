use Rattle.std.proofs.Common.{◌-◌, ◌≤◌}
use Rattle.vq_order.specs.Accessed.{HasNoRaceBelow}
use Rattle.vq_order.proofs.races.count_clean.Given as goal

abbrev pub invariant-loop-high : goal.invariant-loop-high
invariant-loop-high l = (l.low ≤ l.high) × HasNoRaceBelow l.order l.low

abbrev pub decreases-loop-high : goal.decreases-loop-high
decreases-loop-high l = l.high - l.low
