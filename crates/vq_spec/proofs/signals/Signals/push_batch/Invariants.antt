use Rattle.std.proofs.Common.{◌≡◌, ◌+◌, length}
use Rattle.vq_spec.specs.Counts.{AreSignals, signals_before}
use Rattle.vq_spec.proofs.signals.Signals.push_batch.Given as goal

abbrev pub invariant-loop-signal : goal.invariant-loop-signal
invariant-loop-signal l = record {
  kept : AreSignals l.script l.self;
  count : length l.self.ops.items ≡ length (signals_before l.script l.job) + l.signal-index;
}
