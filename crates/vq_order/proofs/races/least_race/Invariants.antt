use Rattle.std.proofs.Common.{◌≡◌, ℕ, Some}
use Rattle.vq_order.specs.Accessed.{IsQuiet, HasNoRaceBelow}
use Rattle.vq_order.proofs.races.least_race.Given as goal

abbrev pub invariant-loop-d : goal.invariant-loop-d
invariant-loop-d l =
    HasNoRaceBelow l.order l.d
    × ((q : ℕ) → l.quiet ≡ Some q → IsQuiet l.order l.accesses l.d q)
