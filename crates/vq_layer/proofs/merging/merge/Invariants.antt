use Rattle.std.proofs.Common.{◌≡◌, ◌++◌, take, drop}
use Rattle.vq_layer.specs.Names.{merged}
use Rattle.vq_layer.proofs.merging.merge.Given as goal

abbrev pub invariant-loop-i : goal.invariant-loop-i
invariant-loop-i l =
    (merged l.wanted l.kept.items ≡ take l.i l.kept.items ++ merged l.wanted (drop l.i l.kept.items))
    × (l.kept.items ≡ l.initial.kept.items)
