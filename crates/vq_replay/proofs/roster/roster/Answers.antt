use Rattle.std.proofs.Common.{◌∙◌, ◌++◌, ◌∷◌, [], List, ap}
use Rattle.vq_model.specs.declared.script.ActorName.{ActorName}
use Rattle.vq_model.specs.declared.script.ActorName.TheVariants.{Host}
use Rattle.vq_model.specs.Plan.{Plan}
use Rattle.vq_replay.proofs.Rosters.{are_round}
use Rattle.vq_replay.proofs.roster.roster.Goals as goal

pub returns : goal.returns
returns c =
    are_round c.args.ordered.now c.script.result.now c.queue_count-queues.result c.push.new.self.items
    c.push_submits.new.actors.items c.push_rings.new.actors.items
    (c.script.ensures.script ∙ ap (λ (p : Plan). p.script) c.plan.ensures.value) c.queue_count-queues.ensures
    ((c.in_ok-push.ensures {u = tt}).items
    ∙ ap (λ (xs : List ActorName). xs ++ Host ∷ []) c.new-actors.ensures.items)
    (c.in_ok-push_submits.ensures {u = tt}) (c.in_ok-push_rings.ensures {u = tt})
