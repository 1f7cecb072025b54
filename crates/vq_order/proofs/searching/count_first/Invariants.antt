use Rattle.std.proofs.Common.{◌<◌, ◌≤◌, ◌-◌, true, false}
use Rattle.vq_order.proofs.searching.count_first.Given as goal

abbrev pub decreases-loop-low : goal.decreases-loop-low
decreases-loop-low g l = l.high - l.low

abbrev pub invariant-loop-low : goal.invariant-loop-low
invariant-loop-low g l =
    (l.low ≤ l.high)
    × (l.high ≤ l.count)
    × (0 < l.low → goal.F-post g l.passes (l.low - 1) true)
    × (l.high < l.count → goal.F-post g l.passes l.high false)
