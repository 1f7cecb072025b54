use Rattle.std.proofs.Common.{subst, Result}
use Rattle.std.specs.Prelude.{IfOk}
use Rattle.vq_ground.proofs.Gets.{at_index}
use Rattle.vq_live_lock.specs.declared.gauge.Note.{Note}
use Rattle.vq_live_lock.specs.declared.gauge.Reached.{Reached}
use Rattle.vq_live_lock.specs.Waits.{IsMet}
use Rattle.vq_live_lock.proofs.bell.Bell.asked_any.Goals as goal

pub returns-in-Ok : goal.returns-in-Ok
returns-in-Ok g c =
    let w = c.index-wanted-number.result in
    let met = subst (λ (o : Result Reached Note). IfOk o (λ r. IsMet w r)) c.in-Ok.is c.asked.ensures.reached in
    (w, at_index c.args.wanted.now c.loop-number.number w c.loop-number-test.true c.index-wanted-number.is, met)
