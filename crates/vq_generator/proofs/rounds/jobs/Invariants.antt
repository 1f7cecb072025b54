use Rattle.std.proofs.Common.{◌≡◌, flat_map}
use Rattle.std.specs.List.{range_with_len}
use Rattle.vq_generator.specs.Generated.{generated_round}
use Rattle.vq_generator.proofs.rounds.jobs.Given as goal

abbrev pub invariant-loop-round : goal.invariant-loop-round
invariant-loop-round l = l.made.items ≡ flat_map generated_round (range_with_len 1 l.round)
