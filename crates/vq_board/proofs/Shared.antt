-- A board may be shared by threads: its words and its slot, the copies and the plan's snapshot may.
use denote.Param.Send.{IsSync, recorded_sync, sendable, struct_sync}
use denote.Struct.Declared.{shape}
use Rattle.std.proofs.Crossing.{crosses}
use Rattle.std.proofs.alloc.Global.TheSendSync as heap
use Rattle.atomic_table.proofs.owned.Table.TheSendSync as table
use Rattle.vq_board_laws.proofs.view.LoggedBuffers.TheSendSync as logged
use Rattle.vq_board.specs.contracts.parts.Board as board
use Rattle.vq_board.proofs.copies.Copies.TheSendSync as copies

-- each field by itself, since a `search` through all of them runs out of steps
pub board_sync : IsSync board.the_row
board_sync =
    recorded_sync board.the_field.row _ _ board.the_type.to_one (struct_sync (shape board.the_type) (search (sendable, crosses, table.the_field_sync, logged.the_send, heap.the_send, heap.the_sync) depth 20, (copies.the_sync, (search (sendable, crosses), tt))))
