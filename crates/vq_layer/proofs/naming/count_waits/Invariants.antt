use Rattle.std.proofs.Common.{◌≡◌, drop}
use Rattle.vq_layer.specs.Names.{kinds_waited}
use Rattle.vq_layer.proofs.naming.count_waits.Given as goal

abbrev pub invariant-loop-w : goal.invariant-loop-w
invariant-loop-w l = kinds_waited l.kinds (drop l.w-index l.waits) ≡ kinds_waited l.initial.kinds l.waits
