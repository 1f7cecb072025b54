use denote.Param.Send.{sendable}
use Rattle.std.proofs.Crossing.{crosses}
use Rattle.vq_board.proofs.Cited.{board_sync}
use Rattle.vq_board.proofs.parts.Pass.TheSendSync as pass
use Rattle.vq_board_example.proofs.threads.run.Goals as goal

pub join-requires-send-F : goal.join-requires-send-F
join-requires-send-F g c κs within = let s = board_sync in let r = c.type_bounds.sync-R in search (sendable, crosses, pass.the_field_send) depth 20
