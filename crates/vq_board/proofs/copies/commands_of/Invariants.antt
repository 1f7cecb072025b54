use Rattle.std.proofs.Common.{◌≡◌, take, map}
use Rattle.vq_board.specs.Copied.{command_of}
use Rattle.vq_board.proofs.copies.commands_of.Given as goal

abbrev pub invariant-loop-c : goal.invariant-loop-c
invariant-loop-c l = l.commands.items ≡ map command_of (take l.c l.plan.commands)
