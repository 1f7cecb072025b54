use Rattle.std.proofs.Common.{◌≡◌, ◌<◌, ◌≤◌, ℕ, max}
use Rattle.vq_clocks.specs.VectorClocks.{in_row}
use Rattle.vq_clocks.proofs.clocks.rows.raise_all.Given as goal

abbrev pub invariant-loop-l : goal.invariant-loop-l
invariant-loop-l l = ((k : ℕ) → k < l.l → in_row l.row k ≡ max (in_row l.initial.row k) (in_row l.from k)) × ((k : ℕ) → l.l ≤ k → in_row l.row k ≡ in_row l.initial.row k)
