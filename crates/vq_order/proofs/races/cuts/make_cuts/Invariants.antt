use Rattle.vq_order.specs.CellRanges.{HasBuffers}
use Rattle.vq_order.specs.CommandCells.{HaveStarts}
use Rattle.vq_order.proofs.races.cuts.make_cuts.Given as goal

abbrev pub invariant-loop-c : goal.invariant-loop-c
invariant-loop-c l = HasBuffers l.buffers l.cuts.items × HaveStarts l.order l.c l.cuts.items
