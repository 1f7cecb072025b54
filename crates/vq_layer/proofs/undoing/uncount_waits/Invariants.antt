use Rattle.std.proofs.Common.{◌≡◌, drop}
use Rattle.vq_layer.specs.Names.{kinds_unwaited}
use Rattle.vq_layer.proofs.undoing.uncount_waits.Given as goal

abbrev pub invariant-loop-w : goal.invariant-loop-w
invariant-loop-w l = kinds_unwaited l.kinds (drop l.w-index l.waits) ≡ kinds_unwaited l.initial.kinds l.waits
