use Rattle.std.proofs.Common.{◌≡◌, take}
use Rattle.vq_layer.specs.Takes.{reserved_all}
use Rattle.vq_layer.proofs.signals.reserve_all.Given as goal

abbrev pub invariant-loop-i : goal.invariant-loop-i
invariant-loop-i l = l.timelines ≡ reserved_all l.initial.timelines (take l.i l.signals)
