use Rattle.std.proofs.Common.{◌≡◌, ◌++◌, take}
use Rattle.std.specs.List.{flat_map}
use Rattle.vq_model.specs.Canonical.{semaphore_words, line_text}
use Rattle.vq_text.proofs.declarations.push_semaphores.Given as goal

abbrev pub invariant-loop-semaphore : goal.invariant-loop-semaphore
invariant-loop-semaphore l = l.out.items ≡ l.fn.out.items
    ++ flat_map (λ x. line_text (semaphore_words x)) (take l.semaphore-index l.semaphores)
