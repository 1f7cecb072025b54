use Rattle.std.proofs.Common.{◌≡◌, take}
use Rattle.vq_actor.specs.Positions.{compares}
use Rattle.vq_actor.proofs.tracker.count_compares.Given as goal

abbrev pub invariant-loop-task : goal.invariant-loop-task
invariant-loop-task l = l.count ≡ compares (take l.task-index l.tasks)
