use Rattle.std.proofs.Common.{◌≡◌, drop}
use Rattle.vq_layer.specs.Installs.{installed_all}
use Rattle.vq_layer.proofs.signals.install_all.Given as goal

abbrev pub invariant-loop-s : goal.invariant-loop-s
invariant-loop-s l = installed_all l.timelines (drop l.s-index l.signals) ≡ installed_all l.initial.timelines l.signals
