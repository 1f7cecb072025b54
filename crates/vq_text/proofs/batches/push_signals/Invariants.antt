use Rattle.std.proofs.Common.{◌≡◌, ◌++◌, take}
use Rattle.std.specs.List.{flat_map}
use Rattle.vq_model.specs.Canonical.{signal_words, line_text}
use Rattle.vq_text.proofs.batches.push_signals.Given as goal

abbrev pub invariant-loop-signal : goal.invariant-loop-signal
invariant-loop-signal l = l.out.items ≡ l.fn.out.items
    ++ flat_map (λ m. line_text (signal_words l.script m)) (take l.signal-index l.signals)
