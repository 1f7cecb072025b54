use Rattle.std.proofs.Common.{◌≡◌, map}
use Rattle.std.specs.List.{range_with_len}
use Rattle.vq_model.specs.Plan.{line_of_job}
use Rattle.vq_trace.proofs.tables.job_lines.Given as goal

abbrev pub invariant-loop-j : goal.invariant-loop-j
invariant-loop-j l = l.lines.items ≡ map (line_of_job l.plan) (range_with_len 0 l.j)
