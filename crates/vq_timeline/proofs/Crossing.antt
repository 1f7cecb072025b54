-- A locked timeline may be shared by threads, and may go to another: what lies under its lock may be sent, and its chain
-- may be shared and sent.
use denote.Param.Send.{IsSend, IsSync, recorded_send, recorded_sync, sendable, struct_send, struct_sync}
use denote.Struct.Declared.{shape}
use Rattle.std.proofs.Crossing.{crosses}
use Rattle.std.proofs.alloc.Global.TheSendSync as heap
use Rattle.atomic_table.proofs.owned.Table.TheSendSync as table
use Rattle.vq_lock.specs.contracts.lock.KeyedLock as lock
use Rattle.vq_payload.specs.contracts.chain.Chain as chain
use Rattle.vq_timeline.proofs.parts.Shelf.TheSendSync as shelf
use Rattle.vq_timeline.specs.contracts.parts.Home as home
use Rattle.vq_timeline.specs.contracts.parts.Shelf as content
use Rattle.vq_timeline.specs.contracts.parts.ShelfFitsHome.TheImpl as fits
use Rattle.vq_timeline.specs.contracts.timeline.LockedTimeline as timeline

chain_sync : IsSync chain.the_row
chain_sync = search (sendable, crosses) depth 20

-- each field by itself, since a `search` through all of them runs out of steps
pub timeline_sync : IsSync timeline.the_row
timeline_sync =
    recorded_sync timeline.the_field.row _ _ timeline.the_type.to_one (struct_sync (shape timeline.the_type) (struct_sync (shape (lock.the_type home.the_row content.the_row fits.ghosts)) (search (sendable, crosses, table.the_field_sync, shelf.the_send, heap.the_send, heap.the_sync) depth 20, tt), (chain_sync, tt)))

chain_send : IsSend chain.the_row
chain_send = search (sendable, crosses) depth 20

pub timeline_send : IsSend timeline.the_row
timeline_send =
    recorded_send timeline.the_field.row _ _ timeline.the_type.to_one (struct_send (shape timeline.the_type) (struct_send (shape (lock.the_type home.the_row content.the_row fits.ghosts)) (search (sendable, crosses, table.the_field_send, shelf.the_send, heap.the_send, heap.the_sync) depth 20, tt), (chain_send, tt)))
