use Rattle.std.proofs.Common.{ℕ, ◌<◌}
use Rattle.vq_board_bench.specs.Rows.{IsLinked}
use Rattle.vq_board_bench.proofs.row.is_row.Given as goal

abbrev pub invariant-loop-j : goal.invariant-loop-j
invariant-loop-j l = (i : ℕ) → i < l.j → IsLinked l.plan l.commands l.signals i
