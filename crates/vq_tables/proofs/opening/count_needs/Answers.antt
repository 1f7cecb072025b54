use Rattle.std.proofs.Common.{◌+◌, ◌∙◌, length, sym}
use Rattle.vq_model.specs.declared.plan.PlanJob.{PlanJob}
use Rattle.vq_tables.proofs.OpeningLaws.{needs_more}
use Rattle.vq_tables.proofs.opening.count_needs.Goals as goal

pub loop-job-preserved : goal.loop-job-preserved
loop-job-preserved c =
    (c.in-Some.ensures {u = tt}).1 ∙ ((λ i. c.loop-job.invariant i + c.len-needs.ensures i)
    ∙ sym (needs_more (λ (x : PlanJob). length x.needs) c.args.plan.now.jobs c.loop-job.job c.job.result.now
    c.job.ensures))
