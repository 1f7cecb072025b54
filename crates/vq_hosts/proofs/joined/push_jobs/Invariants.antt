use Rattle.std.proofs.Common.{◌≡◌, ◌++◌}
use Rattle.vq_hosts.proofs.joined.push_jobs.Given as goal

abbrev pub invariant-loop-job : goal.invariant-loop-job
invariant-loop-job l = l.jobs.items ++ l.job-iterator.rest.items ≡ l.fn.jobs.items ++ l.fn.more.items
