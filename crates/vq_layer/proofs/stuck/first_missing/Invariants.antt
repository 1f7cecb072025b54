use Rattle.std.proofs.Common.{◌≡◌, drop}
use Rattle.vq_layer.specs.Queues.{first_missing}
use Rattle.vq_layer.proofs.stuck.first_missing.Given as goal

abbrev pub invariant-loop-w : goal.invariant-loop-w
invariant-loop-w l = first_missing l.timelines l.queues (drop l.w-index l.waits) ≡ first_missing l.timelines l.queues l.waits
