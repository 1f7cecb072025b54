use Rattle.std.proofs.Common.{arith, ap, length}
use Rattle.vq_model.specs.declared.script.Script.{Script}
use Rattle.vq_plan_laws.proofs.Cited.{plan_semaphores, few_queues}
use Rattle.vq_trace.proofs.index.Index.of.Goals as goal

pub semaphore_names-requires : goal.semaphore_names-requires
semaphore_names-requires c =
    let same = ap (λ (s : Script). length s.semaphores) c.script-script.ensures.script in
    let few = (plan_semaphores c.args.plan.now c.requires).few in
    omega (arith, same, few)

pub queue_names-requires : goal.queue_names-requires
queue_names-requires c =
    let same = ap (λ (s : Script). length s.queues) c.script-script.ensures.script in
    let few = few_queues c.args.plan.now c.requires in
    omega (arith, same, few)
