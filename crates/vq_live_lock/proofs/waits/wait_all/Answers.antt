use Rattle.std.proofs.Common.{List, ◌+◌, take, sym, subst}
use Rattle.vq_live_lock.specs.declared.gauge.Reached.{Reached}
use Rattle.vq_live_lock.specs.Waits.{AreMet}
use Rattle.vq_live_lock.proofs.Meeting.{met_more}
use Rattle.vq_live_lock.proofs.waits.wait_all.Goals as goal

pub loop-pair-preserved : goal.loop-pair-preserved
loop-pair-preserved g c =
    let i = c.loop-pair.pair-index in
    let ws = c.args.wanted.now in
    subst (λ (rs : List Reached). AreMet (take (i + 1) ws) rs) (sym c.in_ok-push.ensures.items)
    (met_more ws c.loop-pair.all.items i c.pair-item.result c.wait.result c.loop-pair-test.true c.pair-item.is
    c.loop-pair.invariant c.wait.ensures)
