use Rattle.std.proofs.Common.{◌≡◌, ◌++◌, ◌∷◌, take}
use Rattle.std.specs.List.{flat_map}
use Rattle.std.specs.Fmt.{decimal}
use Rattle.vq_model.specs.Naming.{semaphore_name}
use Rattle.vq_text.proofs.host_steps.push_pairs.Given as goal

abbrev pub invariant-loop-pair : goal.invariant-loop-pair
invariant-loop-pair l = l.out.items ≡ l.fn.out.items
    ++ flat_map (λ p. 32 ∷ semaphore_name l.script p.semaphore ++ 32 ∷ decimal p.value)
    (take l.pair-index l.pairs)
