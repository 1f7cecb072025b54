use Rattle.vq_order.specs.CellRanges.{HasBuffers}
use Rattle.vq_order.proofs.races.cuts.buffer_starts.Given as goal

abbrev pub invariant-loop-buffer : goal.invariant-loop-buffer
invariant-loop-buffer l = HasBuffers l.buffer l.starts.items
