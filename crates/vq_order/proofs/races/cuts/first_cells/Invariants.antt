use Rattle.std.proofs.Common.{◌≡◌, length}
use Rattle.vq_order.specs.CellRanges.{AreFirstCells}
use Rattle.vq_order.proofs.races.cuts.first_cells.Given as goal

abbrev pub invariant-loop-buffer : goal.invariant-loop-buffer
invariant-loop-buffer l = (length l.firsts.items ≡ l.buffer) × AreFirstCells l.cuts l.firsts.items
