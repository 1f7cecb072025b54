use Rattle.std.proofs.Common.{◌≡◌, map, take}
use Rattle.vq_generator.specs.Generated.{threaded_queue}
use Rattle.vq_generator.proofs.declarations.queues.Given as goal

abbrev pub invariant-loop-text : goal.invariant-loop-text
invariant-loop-text l = l.made.items ≡ map (λ text. threaded_queue text.now) (take l.text-index l.names)
