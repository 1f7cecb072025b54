use Rattle.std.proofs.Common.{◌≡◌, drop}
use Rattle.vq_layer.specs.Names.{first_wait_fault}
use Rattle.vq_layer.proofs.naming.first_wait_fault.Given as goal

abbrev pub invariant-loop-i : goal.invariant-loop-i
invariant-loop-i l = first_wait_fault l.kinds (drop l.i l.waits) ≡ first_wait_fault l.kinds l.waits
