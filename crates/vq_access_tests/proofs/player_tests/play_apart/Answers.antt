use denote.Param.Send.{sendable}
use Rattle.std.proofs.Crossing.{crosses}
use Rattle.vq_shared_run.proofs.Cited.{player_send}
use Rattle.vq_access_tests.proofs.player_tests.play_apart.Goals as goal

pub join-requires-send-F : goal.join-requires-send-F
join-requires-send-F g c κs within =
    let p = player_send in
    let r = c.type_bounds.sync-R in
    search (sendable, crosses) depth 20

pub join-requires-send-A : goal.join-requires-send-A
join-requires-send-A g c κs within =
    let p = player_send in
    search (sendable, crosses) depth 20
