use Rattle.std.proofs.Common.{◌≡◌, drop}
use Rattle.vq_capture_check.specs.Clocks.{says}
use Rattle.vq_capture_check.specs.Watching.{take_signals}
use Rattle.vq_capture_check.specs.Watches.{signals_of}
use Rattle.vq_capture_check.proofs.signals.take_signals.Given as goal

abbrev pub invariant-loop-line : goal.invariant-loop-line
invariant-loop-line l =
    take_signals (signals_of l.signals) (says l.clock.items) (drop l.line-index l.released)
    ≡ take_signals (signals_of l.signals) (says l.fn.clock.items) l.released
