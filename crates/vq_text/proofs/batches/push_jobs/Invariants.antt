use Rattle.std.proofs.Common.{◌≡◌, ◌++◌, take}
use Rattle.std.specs.List.{flat_map}
use Rattle.vq_model.specs.Canonical.{job_words, line_text}
use Rattle.vq_text.proofs.batches.push_jobs.Given as goal

abbrev pub invariant-loop-job : goal.invariant-loop-job
invariant-loop-job l = l.out.items ≡ l.fn.out.items
    ++ flat_map (λ j. flat_map line_text (job_words l.script j)) (take l.job-index l.jobs)
