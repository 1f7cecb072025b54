use Rattle.std.proofs.Common.{◌≡◌, ◌++◌, take}
use Rattle.std.specs.List.{flat_map}
use Rattle.vq_actor.specs.ProgramParts.{wait_where}
use Rattle.vq_actor.proofs.programs.waits.push_waits.Given as goal

abbrev pub invariant-loop-need : goal.invariant-loop-need
invariant-loop-need l =
    l.tasks.items ≡ l.fn.tasks.items ++ flat_map (wait_where l.within) (take l.need-index l.needs)
