use Rattle.std.proofs.Common.{◌≡◌, map}
use Rattle.std.specs.List.{range_with_len}
use Rattle.vq_spec.specs.Fences.{fresh}
use Rattle.vq_spec.proofs.fences.no_fences.Given as goal

abbrev pub invariant-loop : goal.invariant-loop
invariant-loop l = l.states.items ≡ map (λ f. fresh) (range_with_len 0 l.counter)
