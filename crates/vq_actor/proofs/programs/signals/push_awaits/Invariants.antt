use Rattle.std.proofs.Common.{◌≡◌, ◌++◌, map, take}
use Rattle.vq_turns.specs.declared.task.Task.TheVariants.{AwaitBound}
use Rattle.vq_actor.proofs.programs.signals.push_awaits.Given as goal

abbrev pub invariant-loop-op : goal.invariant-loop-op
invariant-loop-op l =
    l.tasks.items ≡ l.fn.tasks.items ++ map AwaitBound (take l.op-index l.ops)
