use Rattle.std.proofs.Common.{◌≡◌, ◌+◌, length}
use Rattle.vq_tables.specs.Opening.{HasLanesUpTo}
use Rattle.vq_tables.proofs.opening.lanes_of.Given as goal

abbrev pub invariant-loop-job : goal.invariant-loop-job
invariant-loop-job l =
    (length l.lanes ≡ length l.plan.script.queues + 1) × HasLanesUpTo l.plan l.job l.lanes
