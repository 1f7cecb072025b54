use Rattle.std.proofs.Common.{◌≡◌, drop}
use Rattle.vq_layer.specs.Queues.{left_by_queues}
use Rattle.vq_layer.specs.Calls.{host_refs}
use Rattle.vq_layer.proofs.layer.LiveLayer.host_refs.Given as goal

abbrev pub invariant-loop-i : goal.invariant-loop-i
invariant-loop-i l = left_by_queues l.timeline l.point l.left (drop l.i l.self.queues) ≡ host_refs l.self l.timeline l.point
