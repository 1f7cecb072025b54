use Rattle.std.proofs.Common.{◌≡◌, drop}
use Rattle.vq_layer.specs.Names.{first_used_wait}
use Rattle.vq_layer.proofs.undoing.first_used_wait.Given as goal

abbrev pub invariant-loop-w : goal.invariant-loop-w
invariant-loop-w l = first_used_wait l.kinds l.signals (drop l.w-index l.waits) ≡ first_used_wait l.kinds l.signals l.waits
