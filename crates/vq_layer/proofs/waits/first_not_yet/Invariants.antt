use Rattle.std.proofs.Common.{◌≡◌, drop}
use Rattle.vq_layer.specs.Waits.{first_not_yet}
use Rattle.vq_layer.proofs.waits.first_not_yet.Given as goal

abbrev pub invariant-loop-wait : goal.invariant-loop-wait
invariant-loop-wait l = first_not_yet l.timelines (drop l.wait-index l.waits) ≡ first_not_yet l.timelines l.waits
