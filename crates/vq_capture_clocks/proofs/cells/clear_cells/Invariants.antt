use Rattle.std.proofs.Common.{◌≡◌, ℕ, false}
use Rattle.vq_capture_clocks.specs.Cells.{cells_of}
use Rattle.vq_capture_clocks.specs.Clocks.{TellsAs}
use Rattle.vq_capture_clocks.specs.Gone.{is_gone}
use Rattle.vq_capture_clocks.specs.Least.{least_in}
use Rattle.vq_capture_clocks.proofs.cells.clear_cells.Given as goal

abbrev pub invariant-loop-number-2 : goal.invariant-loop-number-2
invariant-loop-number-2 l = (k : ℕ) → is_gone l.gone k ≡ false → TellsAs (least_in l.least) (cells_of l.cells k) (cells_of l.fn.cells k)
