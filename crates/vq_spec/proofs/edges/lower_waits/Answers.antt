use Rattle.std.proofs.Common.{◌∙◌, ap, sym, length, refl}
use Rattle.std.specs.List.{slice_get}
use Rattle.std.proofs.lemmas.Option.{slice_get_read}
use Rattle.vq_spec.proofs.PlanEdges.{needs_exist, waits_push}
use Rattle.vq_spec.proofs.edges.lower_waits.Goals as goal

pub take-requires-clause-exist : goal.take-requires-clause-exist
take-requires-clause-exist c =
    let j = c.loop-job.job-index in
    let at = ap (λ jobs. slice_get jobs j) (sym c.requires.jobs)
    ∙ slice_get_read c.args.jobs.now (length c.args.jobs.now) j c.job-item.result refl
    c.loop-job-test.true c.job-item.is in
    needs_exist c.args.script.now c.requires.parts.read j c.job-item.result at

pub loop-job-preserved : goal.loop-job-preserved
loop-job-preserved c =
    let j = c.loop-job.job-index in
    let at = ap (λ jobs. slice_get jobs j) (sym c.requires.jobs)
    ∙ slice_get_read c.args.jobs.now (length c.args.jobs.now) j c.job-item.result refl
    c.loop-job-test.true c.job-item.is in
    waits_push c.args.script.now c.requires.parts.read j c.job-item.result at
    c.loop-job.waits c.push.new.self _ _ c.loop-job.invariant
    c.in_ok-take.ensures.awaited c.in_ok-take.ensures.edges
    c.in_ok-push.ensures.awaited c.in_ok-push.ensures.edges
