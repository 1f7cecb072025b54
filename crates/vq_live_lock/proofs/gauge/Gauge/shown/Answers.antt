use Rattle.std.proofs.Common.{ap, arith}
use Rattle.vq_live_lock.proofs.Rising.{shares}
use Rattle.vq_live_lock.proofs.gauge.Gauge.shown.Goals as goal

pub split_seat-requires : goal.split_seat-requires
split_seat-requires c =
    let t = c.requires in
    (t.3.0, omega (arith, c.args.self.now.one_word), shares _ _ t.0 t.2 t.1 _ (ap (λ m. m.0) t.3.1))
