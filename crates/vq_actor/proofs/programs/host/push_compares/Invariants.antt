use Rattle.std.proofs.Common.{◌≡◌, ◌++◌, map, take}
use Rattle.vq_turns.specs.declared.task.Task.TheVariants.{Compare}
use Rattle.vq_actor.proofs.programs.host.push_compares.Given as goal

abbrev pub invariant-loop-need : goal.invariant-loop-need
invariant-loop-need l =
    l.tasks.items ≡ l.fn.tasks.items ++ map (λ n. Compare n.chain n.value) (take l.need-index l.asked)
