use Rattle.std.proofs.Common.{◌≡◌, filter, not}
use Rattle.std.specs.List.{range_with_len}
use Rattle.vq_spec.specs.SlowProgress.{is_marked}
use Rattle.vq_spec.proofs.order.unmarked.Given as goal

abbrev pub invariant-loop-j : goal.invariant-loop-j
invariant-loop-j l =
    l.jobs.items ≡ filter (λ j. not (is_marked l.marks j)) (range_with_len 0 l.j)
