-- What turns go over may be shared by threads, where who asks the lists may be and the plan may be; and so may who waits
-- for lists, where who can wait may be.
use denote.Param.Send.{IsSync, recorded_sync, sendable, struct_sync}
use denote.Ref.{NamedLft}
use denote.RattleType.{RattleType}
use denote.Struct.Declared.{shape}
use Rattle.std.proofs.Crossing.{crosses}
use Rattle.vq_board.proofs.Cited.{board_sync}
use Rattle.vq_timeline.proofs.Cited.{timeline_sync}
use Rattle.vq_order.specs.contracts.ordered.Ordered as ordered
use Rattle.vq_access.specs.contracts.asking.Waiting as waiting
use Rattle.vq_access.specs.contracts.grounds.Grounds as grounds

-- each field by itself, since a `search` through all of them runs out of steps
pub grounds_sync : (a : NamedLft) (L : RattleType) → IsSync L → IsSync ordered.the_row → IsSync (grounds.the_row a L)
grounds_sync a L asks planned =
    let board = board_sync in
    let timeline = timeline_sync in
    recorded_sync (grounds.the_field a L).row _ _ (grounds.the_type a L).to_one (struct_sync (shape (grounds.the_type a L))
    (search (sendable, crosses) depth 20, (search (sendable, crosses) depth 20, (search (sendable, crosses) depth 20, (search (sendable, crosses) depth 20, tt)))))

pub waiting_sync : (a : NamedLft) (R : RattleType) → IsSync R → IsSync (waiting.the_row a R)
waiting_sync a R waits =
    recorded_sync (waiting.the_field a R).row _ _ (waiting.the_type a R).to_one (struct_sync (shape (waiting.the_type a R))
    (search (sendable, crosses) depth 20, tt))
