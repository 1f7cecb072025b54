use Rattle.std.proofs.Common.{◌≡◌, drop}
use Rattle.vq_layer.specs.Names.{first_signal_fault}
use Rattle.vq_layer.proofs.naming.first_signal_fault.Given as goal

abbrev pub invariant-loop-i : goal.invariant-loop-i
invariant-loop-i l = first_signal_fault l.kinds l.waits (drop l.i l.signals) ≡ first_signal_fault l.kinds l.waits l.signals
