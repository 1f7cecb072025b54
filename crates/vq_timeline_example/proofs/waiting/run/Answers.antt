use denote.Param.Send.{sendable}
use Rattle.std.proofs.Crossing.{crosses}
use Rattle.vq_board.proofs.parts.Pass.TheSendSync as pass
use Rattle.vq_poll.proofs.Cited.{watched_send}
use Rattle.vq_timeline_example.proofs.waiting.run.Goals as goal

pub join-requires-send-F : goal.join-requires-send-F
join-requires-send-F g c κs within =
    let r = c.type_bounds.sync-R in
    search (sendable, crosses, watched_send, pass.the_field_send) depth 20
