use Rattle.std.proofs.Common.{◌≡◌, map}
use Rattle.std.specs.List.{range_with_len}
use Rattle.vq_model.specs.Plan.{line_of_command}
use Rattle.vq_trace.proofs.tables.command_lines.Given as goal

abbrev pub invariant-loop-c : goal.invariant-loop-c
invariant-loop-c l = l.lines.items ≡ map (line_of_command l.plan) (range_with_len 0 l.c)
