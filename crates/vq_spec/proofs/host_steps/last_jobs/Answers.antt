use Rattle.std.proofs.Common.{get_or, None, [], refl}
use Rattle.std.proofs.lemmas.Option.{slice_get-get_or}
use Rattle.vq_spec.proofs.PlanEdges.{jobs_push}
use Rattle.vq_spec.proofs.host_steps.last_jobs.Goals as goal

pub loop-job-preserved : goal.loop-job-preserved
loop-job-preserved c =
    let i = c.loop-job.job-index in
    let last = c.args.last.now in
    jobs_push (λ job. job) [] c.loop-job.jobs.items _ last i (get_or last i None)
    (get_or last i None) (slice_get-get_or last i None c.loop-job-test.true) c.loop-job.invariant
    refl (c.in_ok-push_some.ensures {u = tt})
