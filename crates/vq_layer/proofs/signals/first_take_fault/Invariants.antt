use Rattle.std.proofs.Common.{◌≡◌, drop}
use Rattle.vq_layer.specs.Takes.{first_take_fault, AreKnown}
use Rattle.vq_layer.proofs.signals.first_take_fault.Given as goal

abbrev pub invariant-loop-w : goal.invariant-loop-w
invariant-loop-w l = (first_take_fault l.timelines (drop l.w-index l.signals) ≡ first_take_fault l.timelines l.signals) × AreKnown l.timelines (drop l.w-index l.signals)
