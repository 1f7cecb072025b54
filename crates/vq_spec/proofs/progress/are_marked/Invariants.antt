use Rattle.std.proofs.Common.{◌≡◌, true, take}
use Rattle.std.specs.List.{list_all}
use Rattle.vq_spec.specs.SlowProgress.{is_marked}
use Rattle.vq_spec.proofs.progress.are_marked.Given as goal

abbrev pub invariant-loop-job : goal.invariant-loop-job
invariant-loop-job l = list_all (is_marked l.marks) (take l.job-index l.jobs) ≡ true
