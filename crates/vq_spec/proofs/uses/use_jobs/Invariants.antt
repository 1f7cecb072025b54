use Rattle.std.proofs.Common.{◌≡◌, drop}
use Rattle.vq_spec.specs.Walks.{walk_jobs}
use Rattle.vq_spec.proofs.uses.use_jobs.Given as goal

abbrev pub invariant-loop-job : goal.invariant-loop-job
invariant-loop-job l = walk_jobs l.fn.script l.last (drop l.job-index l.fn.script.jobs)
    ≡ walk_jobs l.fn.script l.fn.last l.fn.script.jobs
