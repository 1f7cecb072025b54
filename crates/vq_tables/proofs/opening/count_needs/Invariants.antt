use Rattle.std.proofs.Common.{◌≡◌, length, map, take}
use Rattle.std.specs.Prelude.{sum}
use Rattle.vq_tables.proofs.opening.count_needs.Given as goal

abbrev pub invariant-loop-job : goal.invariant-loop-job
invariant-loop-job l =
    l.count ≡ sum (map (λ x. length x.needs) (take l.job l.plan.jobs))
