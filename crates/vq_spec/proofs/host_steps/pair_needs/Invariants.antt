use Rattle.std.proofs.Common.{◌≡◌, map, take}
use Rattle.vq_model.specs.Lowering.{of_pair}
use Rattle.vq_spec.proofs.host_steps.pair_needs.Given as goal

abbrev pub invariant-loop-pair : goal.invariant-loop-pair
invariant-loop-pair l = l.needs.items ≡ map (of_pair l.line) (take l.pair-index l.pairs)
