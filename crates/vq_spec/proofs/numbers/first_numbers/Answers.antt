use Rattle.std.proofs.Common.{◌∙◌, ◌++◌, ◌∷◌, [], ap, sym, zero-add}
use Rattle.std.specs.List.{range_with_len}
use Rattle.vq_ground.proofs.Numbers.{range-append}
use Rattle.vq_spec.proofs.numbers.first_numbers.Goals as goal

pub loop-number-preserved : goal.loop-number-preserved
loop-number-preserved c =
    (c.in_ok-push.ensures {u = tt}).items
    ∙ (ap (λ ns. ns ++ c.loop-number.number ∷ []) c.loop-number.invariant
    ∙ (ap (λ n. range_with_len 0 c.loop-number.number ++ n ∷ []) (sym (zero-add c.loop-number.number))
    ∙ sym (range-append 0 c.loop-number.number 1)))
