use Rattle.std.proofs.Common.{◌++◌, ◌∷◌, [], ◌∙◌, ap, append_assoc}
use Rattle.std.specs.Prelude.{replicate}
use Rattle.std.proofs.lemmas.List.{replicate_more}
use Rattle.vq_spec.proofs.owners.push_owner.Goals as goal

pub loop-preserved : goal.loop-preserved
loop-preserved c =
    (c.in_ok-push.ensures {u = tt}).items
    ∙ (ap (λ xs. xs ++ c.args.job ∷ []) c.loop.invariant
    ∙ (append_assoc c.args.owners.now.items (replicate c.loop.counter c.args.job) (c.args.job ∷ [])
    ∙ ap (λ xs. c.args.owners.now.items ++ xs) (replicate_more c.loop.counter c.args.job)))
