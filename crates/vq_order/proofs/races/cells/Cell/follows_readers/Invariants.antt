use Rattle.std.proofs.Common.{take}
use Rattle.vq_order.specs.declared.races.accesses.Visitor.{Visitor}
use Rattle.vq_order.specs.Swept.{AtOrBefore, IsAmong, IsKnown}
use Rattle.vq_order.proofs.races.cells.Cell.follows_readers.Given as goal

abbrev pub invariant-loop-reader : goal.invariant-loop-reader
invariant-loop-reader l =
    ((i : Visitor) → IsAmong (take l.reader-index l.reader-items) i → AtOrBefore l.order i l.by) × IsKnown l.order l.known l.by
