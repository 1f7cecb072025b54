use Rattle.std.proofs.Common.{length, ap, arith}
use Rattle.vq_model.specs.Plan.{Plan}
use Rattle.vq_order.proofs.RacingPairs.{no_pair_races}
use Rattle.vq_order.proofs.races.first_race.Goals as goal

pub returns-in-Ok : goal.returns-in-Ok
returns-in-Ok c =
    let n = ap (λ (q : Plan). length q.commands) c.plan.ensures.value in
    let k = c.commands.ensures in
    no_pair_races c.args.order.now c.plan.ensures.complete.plan (λ a b l m r. c.in-Ok.ensures a b l (omega arith) r)
