use Rattle.std.proofs.Common.{◌≡◌, drop}
use Rattle.vq_layer.specs.Names.{kinds_signaled}
use Rattle.vq_layer.proofs.naming.count_signals.Given as goal

abbrev pub invariant-loop-w : goal.invariant-loop-w
invariant-loop-w l = kinds_signaled l.kinds (drop l.w-index l.signals) ≡ kinds_signaled l.initial.kinds l.signals
