use Rattle.std.proofs.Common.{◌≡◌, drop}
use Rattle.vq_capture_check.specs.Clocks.{says}
use Rattle.vq_capture_check.specs.Watching.{take_signal}
use Rattle.vq_capture_check.specs.Watches.{signals_of}
use Rattle.vq_capture_check.proofs.signals.take_signal.Given as goal

abbrev pub invariant-loop-signal : goal.invariant-loop-signal
invariant-loop-signal l =
    take_signal (signals_of (drop l.signal-index l.signals)) (says l.clock.items) l.line
    ≡ take_signal (signals_of l.signals) (says l.fn.clock.items) l.line
