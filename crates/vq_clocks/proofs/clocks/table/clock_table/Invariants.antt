use Rattle.std.proofs.Common.{◌≡◌, length}
use Rattle.vq_clocks.specs.VectorClocks.{both, HasBoth}
use Rattle.vq_clocks.proofs.clocks.table.clock_table.Given as goal

abbrev pub invariant-loop-j : goal.invariant-loop-j
invariant-loop-j l = HasBoth l.run l.rows l.j-index × (length l.row ≡ both l.run)
