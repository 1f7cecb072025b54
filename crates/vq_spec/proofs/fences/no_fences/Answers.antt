use Rattle.std.proofs.Common.{◌++◌, ◌∷◌, [], ◌∙◌, ap, sym, zero-add}
use Rattle.std.proofs.lemmas.List.FromFn.{map-range_with_len_more}
use Rattle.vq_spec.specs.declared.fences.FenceState.{FenceState}
use Rattle.vq_spec.specs.Fences.{fresh}
use Rattle.vq_spec.proofs.fences.no_fences.Goals as goal

pub loop-preserved : goal.loop-preserved
loop-preserved c =
    (c.in_ok-push.ensures {u = tt}).items
    ∙ (ap (λ ls. ls ++ fresh ∷ []) c.loop.invariant
    ∙ sym (map-range_with_len_more {X = FenceState} (λ f. fresh) 0 c.loop.counter c.loop.counter
    (zero-add c.loop.counter)))
