use Rattle.std.proofs.Common.{◌≡◌, drop}
use Rattle.vq_layer.specs.Queues.{first_naming}
use Rattle.vq_layer.proofs.layer.LiveLayer.first_naming.Given as goal

abbrev pub invariant-loop-i : goal.invariant-loop-i
invariant-loop-i l = first_naming l.timeline l.i (drop l.i l.self.queues) ≡ first_naming l.timeline 0 l.self.queues
