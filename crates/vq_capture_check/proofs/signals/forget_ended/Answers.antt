use Rattle.std.proofs.Common.{◌∙◌, List, ap, sym, rules}
use Rattle.std.proofs.lemmas.Fn.{filter_same}
use Rattle.std.specs.Prelude.{not}
use Rattle.vq_capture_check.specs.declared.signals.SignalLine.{SignalLine}
use Rattle.vq_capture_check.specs.Watching.{ends_signal}
use Rattle.vq_capture_check.specs.Watches.{signals_of}
use Rattle.vq_capture_check.proofs.SignalsLeft.{signals_left, all_left}
use Rattle.vq_capture_check.proofs.signals.forget_ended.Goals as goal

pub returns-then-may_end : goal.returns-then-may_end
returns-then-may_end c =
    ap (λ (xs : List SignalLine). signals_of xs)
    (filter_same _ (λ (x : SignalLine). not (ends_signal c.args.said.now x.signal)) _ (λ x b f k. search rules) _ _ c.retain.ensures.filtered)
    ∙ signals_left c.args.said.now c.args.signals.now.items

pub returns-else-may_end : goal.returns-else-may_end
returns-else-may_end c =
    sym (all_left c.args.said.now (signals_of c.args.signals.now.items) (c.may_end.ensures c.if-may_end.false))
