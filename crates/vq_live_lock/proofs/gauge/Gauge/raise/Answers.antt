use Rattle.std.proofs.Common.{arith}
use Rattle.vq_live_lock.proofs.Rising.{raises}
use Rattle.vq_live_lock.proofs.gauge.Gauge.raise.Goals as goal

pub store-requires : goal.store-requires
store-requires c =
    let t = c.requires in
    (t.3.0, omega (arith, c.args.self.now.one_word), raises _ _ _ t.0 _ t.2 t.1 _ t.3.1 t.4 t.5)
