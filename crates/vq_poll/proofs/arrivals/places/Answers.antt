use Rattle.std.proofs.Common.{ℕ, List, [], ◌∷◌, ◌++◌, sym, ap, ◌∙◌}
use Rattle.vq_ground.proofs.Numbers.{range_more}
use Rattle.vq_poll.proofs.arrivals.places.Goals as goal

pub loop-place-preserved : goal.loop-place-preserved
loop-place-preserved c =
    let n : ℕ = c.loop-place.place in
    c.in_ok-push.ensures.items ∙ (ap (λ (xs : List ℕ). xs ++ n ∷ []) c.loop-place.invariant ∙ sym (range_more n))
