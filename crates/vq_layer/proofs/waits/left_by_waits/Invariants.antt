use Rattle.std.proofs.Common.{◌≡◌, drop}
use Rattle.vq_layer.specs.Waits.{left_by_waits}
use Rattle.vq_layer.proofs.waits.left_by_waits.Given as goal

abbrev pub invariant-loop-w : goal.invariant-loop-w
invariant-loop-w l = left_by_waits l.timeline l.point l.left (drop l.w-index l.waits) ≡ left_by_waits l.timeline l.point l.refs l.waits
