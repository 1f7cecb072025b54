use Rattle.std.proofs.Common.{◌≡◌, drop}
use Rattle.vq_layer.specs.Installs.{first_behind}
use Rattle.vq_layer.proofs.signals.first_behind.Given as goal

abbrev pub invariant-loop-s : goal.invariant-loop-s
invariant-loop-s l = first_behind l.timelines (drop l.s-index l.signals) ≡ first_behind l.timelines l.signals
