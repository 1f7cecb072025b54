-- An actor of a shared run may go to another thread: a run may be shared and sent, and so may what an actor is at be sent.
use denote.Param.Send.{IsSend, IsSync, enum_send, recorded_send, recorded_sync, sendable, struct_send, struct_sync}
use denote.Enum.Declared.{shape as variants_of}
use denote.Struct.Declared.{shape}
use Rattle.std.proofs.Crossing.{crosses}
use Rattle.std.proofs.alloc.Global.TheSendSync as heap
use Rattle.atomic_table.proofs.owned.Table.TheSendSync as table
use Rattle.vq_actor.proofs.company.Company.TheSendSync as company
use Rattle.vq_board_laws.proofs.view.LoggedBuffers.TheSendSync as logged
use Rattle.vq_board.specs.contracts.parts.Board as board
use Rattle.vq_board.proofs.copies.Copies.TheSendSync as copies
use Rattle.vq_board.specs.contracts.parts.Closed as closed
use Rattle.vq_transfer.proofs.buffers.Buffers.TheSendSync as buffers
use Rattle.vq_order.proofs.ordered.Ordered.TheSendSync as ordered
use Rattle.vq_timeline.proofs.Cited.{timeline_send, timeline_sync}
use Rattle.vq_shared_run.proofs.stand.Stand.TheSendSync as stand
use Rattle.vq_shared_run.specs.contracts.left.Left as left
use Rattle.vq_shared_run.specs.contracts.left.Left.TheInside as inside
use Rattle.vq_shared_run.specs.contracts.run.Run as run
use Rattle.vq_shared_run.specs.contracts.player.Player as player
use Rattle.vq_shared_run.specs.contracts.player.Playing as playing

-- each field by itself, since a `search` through all of them runs out of steps
board_send : IsSend board.the_field.row
board_send =
    struct_send (shape board.the_type) (search (sendable, crosses, table.the_field_send, logged.the_send, heap.the_send) depth 20, (copies.the_send, (search (sendable, crosses), tt)))

board_sync : IsSync board.the_field.row
board_sync =
    struct_sync (shape board.the_type) (search (sendable, crosses, table.the_field_sync, logged.the_send, heap.the_send, heap.the_sync) depth 20, (copies.the_sync, (search (sendable, crosses), tt)))

run_send : IsSend run.the_row
run_send =
    recorded_send run.the_field.row _ _ run.the_type.to_one (struct_send (shape run.the_type) (ordered.the_send, (board_send, (search (crosses, timeline_send), (company.the_send, tt)))))

run_sync : IsSync run.the_row
run_sync =
    recorded_sync run.the_field.row _ _ run.the_type.to_one (struct_sync (shape run.the_type) (ordered.the_sync, (board_sync, (search (crosses, timeline_sync), (company.the_sync, tt)))))

closed_send : IsSend closed.the_field.row
closed_send =
    struct_send (shape closed.the_type) (buffers.the_send, (search (sendable, crosses), (search (sendable, crosses), tt)))

inside_send : IsSend inside.the_row
inside_send =
    recorded_send inside.the_field.row _ _ inside.the_type.to_one (struct_send (shape inside.the_type) (ordered.the_send, (search (sendable, crosses) depth 20, (closed_send, tt))))

left_send : IsSend left.the_row
left_send = search (sendable, inside_send)

playing_send : IsSend playing.the_field.row
playing_send =
    struct_send (shape playing.the_type) (search (crosses, run_send, run_sync), (stand.the_field_send, tt))

pub player_send : IsSend player.the_row
player_send =
    recorded_send player.the_field.row _ _ player.the_type.to_one (enum_send (variants_of player.the_type) ((playing_send, tt), ((left_send, tt), tt)))
