use Rattle.std.proofs.Common.{All, take}
use Rattle.vq_actor.specs.Positions.{HasRoom}
use Rattle.vq_actor.proofs.tracker.most_needs.Given as goal

abbrev pub invariant-loop-task : goal.invariant-loop-task
invariant-loop-task l = All (HasRoom l.most) (take l.task-index l.tasks)
