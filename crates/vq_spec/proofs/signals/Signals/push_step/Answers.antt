use Rattle.std.proofs.Common.{◌≡◌, ℕ, ◌+◌, ◌∙◌, ap, length, subst, sym, OnOk}
use Rattle.std.specs.List.{slice_get}
use Rattle.vq_model.specs.Signals.{all_signals}
use Rattle.vq_spec.proofs.SignalOrder.{step_signal, one_more, none_more}
use Rattle.vq_spec.proofs.signals.Signals.push_step.Goals as goal

pub returns-in_default : goal.returns-in_default
returns-in_default c =
    record {
      kept = c.requires.kept;
      more = c.requires.first ∙ sym (none_more c.args.script.now c.args.job c.args.host.now
          c.requires.at c.in_default.not-Signal);
    }

pub push-requires-clause-next : goal.push-requires-clause-next
push-requires-clause-next c =
    let s = c.args.script.now in
    ap (slice_get (all_signals s)) c.requires.first
    ∙ step_signal s c.args.job c.args.host.now c.requires.at c.in-Signal.pair c.in-Signal.is

pub returns-clause-more : goal.returns-clause-more
returns-clause-more c =
    let s = c.args.script.now in
    let more = one_more s c.args.job c.args.host.now c.requires.at c.in-Signal.pair c.in-Signal.is in
    subst (λ (k : ℕ). OnOk c.push.result (length c.push.new.self.ops.items ≡ k))
    (ap (λ n. n + 1) c.requires.first ∙ sym more) c.push.ensures.more
