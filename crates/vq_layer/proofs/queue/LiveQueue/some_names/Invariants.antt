use Rattle.std.proofs.Common.{◌≡◌, drop}
use Rattle.vq_layer.specs.Queues.{some_names}
use Rattle.vq_layer.proofs.queue.LiveQueue.some_names.Given as goal

abbrev pub invariant-loop-i : goal.invariant-loop-i
invariant-loop-i l = some_names l.timeline (drop l.i l.self.batches) ≡ some_names l.timeline l.self.batches
