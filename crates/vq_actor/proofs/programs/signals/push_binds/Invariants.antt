use Rattle.std.proofs.Common.{◌≡◌, ◌++◌, map, take}
use Rattle.vq_turns.specs.declared.task.Task.TheVariants.{Bind}
use Rattle.vq_actor.proofs.programs.signals.push_binds.Given as goal

abbrev pub invariant-loop-op : goal.invariant-loop-op
invariant-loop-op l =
    l.tasks.items ≡ l.fn.tasks.items ++ map Bind (take l.op-index l.ops)
