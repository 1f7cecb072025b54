use Rattle.std.proofs.Common.{get_or, option_map}
use Rattle.std.specs.List.{slice_get}
use Rattle.std.proofs.lemmas.Option.{slice_get-get_or}
use Rattle.vq_spec.proofs.PlanEdges.{jobs_push}
use Rattle.vq_spec.proofs.edges.push_jobs_of.Goals as goal

pub loop-op-preserved : goal.loop-op-preserved
loop-op-preserved c =
    let i = c.loop-op.op-index in
    jobs_push (λ e. option_map (λ o. o.job) (slice_get c.args.ops.now e)) c.args.jobs.now.items
    c.loop-op.jobs.items _ c.args.awaited.now i (get_or c.args.awaited.now i 0) c.job_of.result
    (slice_get-get_or c.args.awaited.now i 0 c.loop-op-test.true) c.loop-op.invariant
    c.job_of.ensures (c.in_ok-push_some.ensures {u = tt})
