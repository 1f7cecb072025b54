-- A berth may be shared by threads, since the room that lies under its lock may be sent.
use denote.Param.Send.{IsSync, recorded_sync, sendable, struct_sync}
use denote.Ref.{NamedLft}
use denote.RattleType.{RattleType}
use denote.Struct.Declared.{shape}
use Rattle.std.proofs.Crossing.{crosses}
use Rattle.std.proofs.alloc.Global.TheSendSync as heap
use Rattle.std.specs.contracts.option.Option as option
use Rattle.atomic_table.proofs.owned.Table.TheSendSync as table
use Rattle.vq_lock.specs.contracts.lock.KeyedLock as lock
use Rattle.vq_order.specs.contracts.ordered.Ordered as ordered
use Rattle.vq_access.specs.contracts.asking.Waiting as waiting
use Rattle.vq_access.specs.contracts.grounds.Grounds as grounds
use Rattle.vq_access.proofs.Cited.{grounds_sync, waiting_sync}
use Rattle.vq_board_run.specs.contracts.room.AccessRoom as room
use Rattle.vq_board_run.proofs.room.AccessRoom.TheSendSync as content
use Rattle.vq_rings.specs.contracts.berth.Home as home
use Rattle.vq_rings.specs.contracts.berth.OptionAccessRoomFitsHome.TheImpl as fits

pub berth_sync : IsSync (lock.the_row home.the_row (option.the_row room.the_row) fits.ghosts)
berth_sync =
    let berth = lock.the_type home.the_row (option.the_row room.the_row) fits.ghosts in
    recorded_sync _ _ _ berth.to_one (struct_sync (shape berth)
    (search (sendable, crosses, table.the_field_sync, content.the_send, heap.the_send, heap.the_sync) depth 20, tt))

-- so may what turns go over, where their lists wait
pub waiting_grounds_sync : (a b : NamedLft) (R : RattleType) → IsSync R → IsSync ordered.the_row →
    IsSync (grounds.the_row a (waiting.the_row b R))
waiting_grounds_sync a b R waits planned = grounds_sync a (waiting.the_row b R) (waiting_sync b R waits) planned
