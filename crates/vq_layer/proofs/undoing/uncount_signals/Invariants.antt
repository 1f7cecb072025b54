use Rattle.std.proofs.Common.{◌≡◌, drop}
use Rattle.vq_layer.specs.Names.{kinds_unsignaled}
use Rattle.vq_layer.proofs.undoing.uncount_signals.Given as goal

abbrev pub invariant-loop-s : goal.invariant-loop-s
invariant-loop-s l = kinds_unsignaled l.kinds (drop l.s-index l.signals) ≡ kinds_unsignaled l.initial.kinds l.signals
