use Rattle.std.proofs.Common.{arith}
use Rattle.vq_live_lock.proofs.Rising.{looks}
use Rattle.vq_live_lock.proofs.gauge.Gauge.look_again.Goals as goal

pub load-requires : goal.load-requires
load-requires c =
    let t = c.requires in
    (t.1.0, omega (arith, c.args.self.now.one_word), looks _ _ _ t.0 _ t.1.1)
