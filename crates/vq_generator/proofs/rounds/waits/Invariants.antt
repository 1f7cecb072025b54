use Rattle.std.proofs.Common.{◌≡◌, ◌==◌, map, filter, not}
use Rattle.std.specs.List.{range_with_len}
use Rattle.vq_generator.specs.Generated.{mark_at}
use Rattle.vq_generator.proofs.rounds.waits.Given as goal

abbrev pub invariant-loop-other : goal.invariant-loop-other
invariant-loop-other l =
    l.made.items ≡ map (mark_at l.value) (filter (λ x. not (x == l.queue)) (range_with_len 0 l.other))
