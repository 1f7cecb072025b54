use Rattle.std.proofs.Common.{◌≡◌, ◌<◌, ℕ, [], length, get_or}
use Rattle.vq_spec.specs.SlowProgress.{IsHead}
use Rattle.vq_spec.proofs.heads.first_heads.Given as goal

abbrev pub invariant-loop-lane : goal.invariant-loop-lane
invariant-loop-lane l =
    (length l.heads.items ≡ l.lane)
    × ((k : ℕ) → k < l.lane → IsHead l.plan [] k (get_or l.heads.items k 0))
