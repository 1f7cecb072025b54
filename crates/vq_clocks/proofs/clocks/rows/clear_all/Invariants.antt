use Rattle.std.proofs.Common.{◌≡◌, ◌++◌, replicate, drop}
use Rattle.vq_clocks.proofs.clocks.rows.clear_all.Given as goal

abbrev pub invariant-loop-l : goal.invariant-loop-l
invariant-loop-l l = l.row ≡ replicate l.l 0 ++ drop l.l l.initial.row
