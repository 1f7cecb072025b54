use Rattle.std.proofs.Common.{◌≡◌, map, take}
use Rattle.vq_generator.specs.Generated.{timeline_from_zero}
use Rattle.vq_generator.proofs.declarations.timelines.Given as goal

abbrev pub invariant-loop-text : goal.invariant-loop-text
invariant-loop-text l = l.made.items ≡ map (λ text. timeline_from_zero text.now) (take l.text-index l.names)
