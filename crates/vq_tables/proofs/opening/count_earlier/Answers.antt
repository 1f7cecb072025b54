use Rattle.std.proofs.Common.{◌∙◌, ◌++◌, ◌∷◌, [], ℕ, List, length, get_or, ap, arith}
use Rattle.std.proofs.lemmas.List.{length-append}
use Rattle.vq_tables.specs.Tables.{batches_before}
use Rattle.vq_tables.proofs.BatchCounts.{earlier_push, count_more, count_fits}
use Rattle.vq_tables.proofs.opening.count_earlier.Goals as goal

pub overflow_add-count : goal.overflow_add-count
overflow_add-count c =
    let p = c.args.plan.now in
    let fits = count_fits p c.loop-job.job c.loop-job.count c.batches_at-count.result c.loop-job.invariant.2
    c.batches_at-count.ensures in
    let few = c.jobs-job-end.ensures in
    let l = c.loop-job-test.true in
    omega arith

pub loop-job-preserved : goal.loop-job-preserved
loop-job-preserved c =
    let p = c.args.plan.now in
    let i = c.loop-job.invariant in
    let size = i.0 in
    let pushed = (c.in_ok-push.ensures {u = tt}).items ∙ ap (λ (n : ℕ). c.loop-job.earlier.items ++ n ∷ []) i.2 in (
      ap length pushed ∙ (length-append c.loop-job.earlier.items (batches_before p c.loop-job.job ∷ []) ∙ (omega
          arith)),
      (λ k l. ap (λ (xs : List ℕ). get_or xs k 0) pushed ∙ earlier_push p c.loop-job.earlier.items c.loop-job.job
          size i.1 k l),
      count_more p c.loop-job.job c.loop-job.count c.batches_at-count.result i.2 c.batches_at-count.ensures,
    )
