use Rattle.std.proofs.Common.{◌∙◌, sym, false}
use Rattle.vq_turns.specs.Programs.{submits_batch}
use Rattle.vq_actor.specs.ProgramParts.{is_of_queue, of_queue}
use Rattle.vq_actor.proofs.ProgramsMade.{job_passed, job_added, part_at}
use Rattle.vq_actor.proofs.programs.batches.submit_program.Goals as goal

pub loop-j-preserved-then-not-is_of_queue : goal.loop-j-preserved-then-not-is_of_queue
loop-j-preserved-then-not-is_of_queue c =
    job_passed (submits_batch c.args.plan.now) (of_queue c.args.plan.now c.args.queue) c.loop-j.j c.loop-j.tasks.items
    c.loop-j.invariant
    (sym (part_at c.args.plan.now c.loop-j.j c.job.result.now c.job.ensures (is_of_queue c.args.queue) false)
    ∙ (sym c.is_of_queue.ensures ∙ c.if-not-is_of_queue.true))

pub loop-j-preserved : goal.loop-j-preserved
loop-j-preserved c =
    job_added (submits_batch c.args.plan.now) (of_queue c.args.plan.now c.args.queue) c.loop-j.j c.loop-j.tasks.items
    c.push_submits.new.tasks.items c.loop-j.invariant
    (sym (part_at c.args.plan.now c.loop-j.j c.job.result.now c.job.ensures (is_of_queue c.args.queue) false)
    ∙ (sym c.is_of_queue.ensures ∙ c.if-not-is_of_queue.false))
    (c.in_ok-push_submits.ensures {u = tt})
