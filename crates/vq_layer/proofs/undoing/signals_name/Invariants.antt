use Rattle.std.proofs.Common.{◌≡◌, drop}
use Rattle.vq_layer.specs.Names.{signals_name}
use Rattle.vq_layer.proofs.undoing.signals_name.Given as goal

abbrev pub invariant-loop-s : goal.invariant-loop-s
invariant-loop-s l = signals_name l.n (drop l.s-index l.signals) ≡ signals_name l.n l.signals
