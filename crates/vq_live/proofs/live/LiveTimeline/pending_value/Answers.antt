use Rattle.std.proofs.Common.{suc, take, ◌≡◌, ℕ, ◌-◌, ◌∙◌, ap, arith}
use Rattle.vq_live.specs.Live.{last_value, pending_value}
use Rattle.vq_live.specs.Fields.{live_of}
use Rattle.vq_live.proofs.Values.{last_read}
use Rattle.vq_live.proofs.live.LiveTimeline.pending_value.Goals as goal

pub returns-else-self-eq0 : goal.returns-else-self-eq0
returns-else-self-eq0 c =
    let t = live_of c.self.inside in
    let test = c.if-self-eq0.false in
    let within = c.self.invariant.kept.within in
    let same : suc (t.installed - 1) ≡ t.installed = omega arith in
    last_read t.payload t.ops (t.installed - 1) c.index.result.now (omega arith) c.index.ensures
    ∙ ap (λ (k : ℕ). last_value c.self.inside.payload (take k c.self.inside.ops.items)) same
    ∙ ap pending_value c.self.view_is
