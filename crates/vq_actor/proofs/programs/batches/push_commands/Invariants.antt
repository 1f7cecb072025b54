use Rattle.std.proofs.Common.{◌≡◌, ◌++◌, take}
use Rattle.std.specs.List.{enumerate_from, flat_map}
use Rattle.vq_model.specs.Plan.{commands_of}
use Rattle.vq_turns.specs.Programs.{runs_command}
use Rattle.vq_actor.proofs.programs.batches.push_commands.Given as goal

abbrev pub invariant-loop-place : goal.invariant-loop-place
invariant-loop-place l =
    l.tasks.items ≡ l.fn.tasks.items
    ++ flat_map (runs_command l.plan l.fn.j) (take l.place (enumerate_from 1 (commands_of l.plan l.fn.j)))
