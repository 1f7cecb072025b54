use Rattle.std.proofs.Common.{◌≡◌, drop}
use Rattle.vq_layer.specs.Names.{first_used_signal}
use Rattle.vq_layer.proofs.undoing.first_used_signal.Given as goal

abbrev pub invariant-loop-s : goal.invariant-loop-s
invariant-loop-s l = first_used_signal l.kinds (drop l.s-index l.signals) ≡ first_used_signal l.kinds l.signals
