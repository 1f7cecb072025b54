use Rattle.std.proofs.Common.{◌<◌, ℕ}
use Rattle.vq_order.specs.Accessed.{access_in, IsJobInOrder, RaceBy}
use Rattle.vq_order.proofs.races.first_racing.Given as goal

abbrev pub invariant-loop-c : goal.invariant-loop-c
invariant-loop-c l =
    ((a : ℕ) → a < l.c → ¬ RaceBy l.order (access_in l.accesses a) (access_in l.accesses l.d))
    × IsJobInOrder l.order l.accesses l.in_order l.c l.d l.d
