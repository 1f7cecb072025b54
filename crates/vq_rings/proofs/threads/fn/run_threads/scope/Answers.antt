use denote.Param.Send.{sendable, param_send}
use Rattle.std.proofs.Crossing.{crosses}
use Rattle.vq_order.proofs.ordered.Ordered.TheSendSync as ordered
use Rattle.vq_rings.proofs.common.Common.TheSendSync as common
use Rattle.vq_rings.proofs.Crossing.{berth_sync, waiting_grounds_sync}
use Rattle.vq_rings.proofs.threads.fn.run_threads.scope.Goals as goal
use Rattle.vq_rings.proofs.threads.fn.run_threads.scope.Lts as lts

pub spawn-started-requires-send-F : goal.spawn-started-requires-send-F
spawn-started-requires-send-F g c κs within =
    let s = berth_sync in
    let o = common.the_sync in
    let p = ordered.the_sync in
    param_send 1 (lts.arg-0-1 g.row.R g.row.G g.R.laws g.G.laws g.R.Threads-dict g.R.Wait-dict g.G.Gate-dict κs) (search (sendable, crosses, waiting_grounds_sync) depth 20)
