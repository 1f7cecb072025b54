use Rattle.std.proofs.Common.{◌≡◌, ◌++◌, take, drop}
use Rattle.vq_layer.specs.Waits.{held_all, waits_all}
use Rattle.vq_layer.proofs.waits.hold_all.Given as goal

abbrev pub invariant-loop-i : goal.invariant-loop-i
invariant-loop-i l = (held_all l.timelines (drop l.i l.waits) ≡ held_all l.initial.timelines l.initial.waits) × (take l.i l.waits ++ waits_all l.timelines (drop l.i l.waits) ≡ waits_all l.initial.timelines l.initial.waits)
