use Rattle.std.proofs.Common.{◌≡◌, ℕ, ◌+◌, ◌∙◌, ap, arith, length, get_or, OnOk, subst, sym}
use Rattle.std.specs.List.{slice_get}
use Rattle.std.specs.Option.{option_to_list}
use Rattle.std.proofs.lemmas.Option.{slice_get-get_or}
use Rattle.vq_model.specs.declared.script.Mark.{Mark}
use Rattle.vq_model.specs.Signals.{all_signals}
use Rattle.vq_spec.specs.Counts.{signals_before}
use Rattle.vq_spec.proofs.SignalOrder.{batch_signal, batch_fence, batch_count}
use Rattle.vq_spec.proofs.signals.Signals.push_batch.Goals as goal

pub push-requires-clause-next : goal.push-requires-clause-next
push-requires-clause-next c =
    let s = c.args.script.now in
    let b = c.args.batch.now in
    let i = c.loop-signal.signal-index in
    let none : Mark = record { line = 0; semaphore = 0; value = 0; from = 0 } in
    ap (slice_get (all_signals s)) c.loop-signal.invariant.count
    ∙ batch_signal s c.args.job b c.requires.at i
    (get_or c.as_slice-signal-items.result.now i none)
    (ap (λ ms. slice_get ms i) (sym c.as_slice-signal-items.ensures)
    ∙ slice_get-get_or c.as_slice-signal-items.result.now i none c.loop-signal-test.true)

pub push-requires-in-Some-clause-next : goal.push-requires-in-Some-clause-next
push-requires-in-Some-clause-next c =
    let s = c.args.script.now in
    let b = c.args.batch.now in
    let n = ap length c.as_slice-signal-items.ensures in
    let all : length c.loop-signal.self.ops.items
    ≡ length (signals_before s c.args.job) + length b.signals = omega
    (arith, c.loop-signal.invariant.count) in
    ap (slice_get (all_signals s)) all
    ∙ batch_fence s c.args.job b c.requires.at c.in-Some.fence c.in-Some.is

pub returns-in-Some-clause-more : goal.returns-in-Some-clause-more
returns-in-Some-clause-more c =
    let s = c.args.script.now in
    let b = c.args.batch.now in
    let n = ap length c.as_slice-signal-items.ensures in
    let m = batch_count s c.args.job b c.requires.at in
    let one = ap (λ o. length (option_to_list o)) c.in-Some.is in
    let all : length c.loop-signal.self.ops.items + 1
    ≡ length (signals_before s (c.args.job + 1)) = omega
    (arith, c.loop-signal.invariant.count) in
    subst (λ (k : ℕ). OnOk c.push-in-Some.result
    (length c.push-in-Some.new.self.ops.items ≡ k)) all c.push-in-Some.ensures.more

pub returns-in-None-clause-more : goal.returns-in-None-clause-more
returns-in-None-clause-more c =
    let s = c.args.script.now in
    let b = c.args.batch.now in
    let n = ap length c.as_slice-signal-items.ensures in
    let m = batch_count s c.args.job b c.requires.at in
    let one = ap (λ o. length (option_to_list o)) c.in-None.is in
    omega (arith, c.loop-signal.invariant.count)
