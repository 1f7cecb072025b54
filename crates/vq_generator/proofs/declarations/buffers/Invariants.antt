use Rattle.std.proofs.Common.{◌≡◌, map, take}
use Rattle.vq_generator.specs.Generated.{small_buffer}
use Rattle.vq_generator.proofs.declarations.buffers.Given as goal

abbrev pub invariant-loop-text : goal.invariant-loop-text
invariant-loop-text l = l.made.items ≡ map (λ text. small_buffer text.now) (take l.text-index l.names)
