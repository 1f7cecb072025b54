use Rattle.std.proofs.Common.{◌≡◌, drop}
use Rattle.vq_layer.specs.Names.{waits_name}
use Rattle.vq_layer.proofs.undoing.waits_name.Given as goal

abbrev pub invariant-loop-w : goal.invariant-loop-w
invariant-loop-w l = waits_name l.n (drop l.w-index l.waits) ≡ waits_name l.n l.waits
