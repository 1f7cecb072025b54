use Rattle.std.proofs.Common.{◌≡◌, drop}
use Rattle.vq_layer.specs.Queues.{first_ready}
use Rattle.vq_layer.proofs.layer.LiveLayer.next.Given as goal

abbrev pub invariant-loop-i : goal.invariant-loop-i
invariant-loop-i l = first_ready l.self.timelines l.i (drop l.i l.self.queues) ≡ first_ready l.self.timelines 0 l.self.queues
