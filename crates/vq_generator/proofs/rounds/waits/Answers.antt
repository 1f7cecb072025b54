use Rattle.std.proofs.Common.{◌∙◌, ap, ◌++◌, map, ◌∷◌, [], List, filter, not, ◌==◌}
use Rattle.vq_model.specs.declared.script.Mark.{Mark}
use Rattle.vq_generator.specs.Generated.{mark_at}
use Rattle.vq_generator.proofs.RoundLists.{kept_more}
use Rattle.vq_generator.proofs.rounds.waits.Goals as goal

pub loop-other-preserved : goal.loop-other-preserved
loop-other-preserved c =
    c.in_ok-push_wait.ensures
    ∙ (ap (λ (xs : List Mark). xs ++ map (mark_at c.args.value)
    (filter (λ x. not (x == c.args.queue)) (c.loop-other.other ∷ []))) c.loop-other.invariant
    ∙ kept_more (mark_at c.args.value) (λ x. not (x == c.args.queue)) c.loop-other.other)
