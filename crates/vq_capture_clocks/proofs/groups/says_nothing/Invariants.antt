use Rattle.std.proofs.Common.{◌≡◌, ℕ, take}
use Rattle.vq_capture_clocks.specs.Cells.{cell_in}
use Rattle.vq_capture_clocks.specs.Clocks.{no_clock}
use Rattle.vq_capture_clocks.proofs.groups.says_nothing.Given as goal

abbrev pub invariant-loop-group : goal.invariant-loop-group
invariant-loop-group l = (p : ℕ) → cell_in (take l.group-index l.groups) p ≡ no_clock
