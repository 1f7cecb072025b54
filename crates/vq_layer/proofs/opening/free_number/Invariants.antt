use Rattle.std.proofs.Common.{◌≡◌, drop}
use Rattle.vq_layer.specs.Names.{free_from}
use Rattle.vq_layer.proofs.opening.free_number.Given as goal

abbrev pub invariant-loop-i : goal.invariant-loop-i
invariant-loop-i l = free_from l.i (drop l.i l.kinds) ≡ free_from 0 l.kinds
