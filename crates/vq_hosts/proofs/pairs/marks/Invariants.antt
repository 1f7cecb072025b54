use Rattle.std.proofs.Common.{◌≡◌, map, take}
use Rattle.vq_model.specs.ScriptOfLines.{mark}
use Rattle.vq_hosts.proofs.pairs.marks.Given as goal

abbrev pub invariant-loop-pair : goal.invariant-loop-pair
invariant-loop-pair l = l.marks.items ≡ map (λ pair. mark l.number pair 1) (take l.pair-index l.pairs)
