use Rattle.std.proofs.Common.{◌∙◌, ap, length}
use Rattle.vq_model.specs.declared.script.Script.{Script}
use Rattle.vq_model.specs.Plan.{Plan}
use Rattle.vq_actor.proofs.QueueCounts.{count_fits}
use Rattle.vq_actor.proofs.company.queue_count.Goals as goal

pub overflow_cast-result : goal.overflow_cast-result
overflow_cast-result c =
    count_fits c.args.ordered.now c.plan.ensures.read (length c.as_slice.result.now)
    (ap length c.as_slice.ensures
    ∙ (ap (λ (x : Script). length x.queues) c.script.ensures.script
    ∙ ap (λ (p : Plan). length p.script.queues) c.plan.ensures.value))
