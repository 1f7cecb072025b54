use Rattle.std.proofs.Common.{ap, arith, ◌∙◌, Some}
use Rattle.vq_live_lock.specs.declared.rule.Known.{Known}
use Rattle.vq_live_lock.specs.Gauges.{pen_at, rings_of}
use Rattle.vq_live_lock.proofs.Rising.{leaves, hands_out}
use Rattle.vq_live_lock.proofs.gauge.Gauge.note.Goals as goal

pub compare_exchange_with-requires : goal.compare_exchange_with-requires
compare_exchange_with-requires c =
    let t = c.requires in
    (t.3.0, omega (arith, c.args.self.now.one_word), leaves _ _ _ t.0 _ t.2 t.1 c.args.heard.now _ t.3.1 t.4 t.5 t.6)

pub split_seat-requires : goal.split_seat-requires
split_seat-requires c =
    let t = c.requires in
    let e = c.compare_exchange_with.ensures in
    let is = ap (λ m. m.0) e.2 ∙ ap (λ (v : Known). pen_at v.floor (Some c.args.value) (rings_of c.args.heard.now)) (ap (λ m. m.0) t.3.1) in
    (e.0 ∙ t.3.0, omega (arith, c.args.self.now.one_word), hands_out _ _ t.0 c.args.value (rings_of c.args.heard.now) _ is)
