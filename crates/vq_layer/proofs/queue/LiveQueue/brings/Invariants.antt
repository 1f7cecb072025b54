use Rattle.std.proofs.Common.{◌≡◌, drop}
use Rattle.vq_layer.specs.Queues.{batches_bring}
use Rattle.vq_layer.proofs.queue.LiveQueue.brings.Given as goal

abbrev pub invariant-loop-i : goal.invariant-loop-i
invariant-loop-i l = batches_bring l.wanted (drop l.i l.self.batches) ≡ batches_bring l.wanted (drop l.self.released l.self.batches)
