use Rattle.std.proofs.Common.{◌≡◌, ◌-◌, drop}
use Rattle.vq_layer.specs.Takes.{unreserved_all}
use Rattle.vq_layer.proofs.signals.unreserve_all.Given as goal

abbrev pub invariant-loop-done : goal.invariant-loop-done
invariant-loop-done l = l.timelines ≡ unreserved_all l.initial.timelines (drop (l.count - l.done) l.signals)
