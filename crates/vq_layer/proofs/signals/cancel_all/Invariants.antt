use Rattle.std.proofs.Common.{◌≡◌, ◌-◌, drop}
use Rattle.vq_layer.specs.Installs.{cancelled_all}
use Rattle.vq_layer.proofs.signals.cancel_all.Given as goal

abbrev pub invariant-loop-done : goal.invariant-loop-done
invariant-loop-done l = l.timelines ≡ cancelled_all l.initial.timelines (drop (l.count - l.done) l.signals)
