use Rattle.std.proofs.Common.{◌≡◌, drop}
use Rattle.vq_layer.specs.Waits.{returned_all}
use Rattle.vq_layer.proofs.waits.return_all.Given as goal

abbrev pub invariant-loop-w : goal.invariant-loop-w
invariant-loop-w l = returned_all l.timelines (drop l.w-index l.waits) ≡ returned_all l.initial.timelines l.waits
