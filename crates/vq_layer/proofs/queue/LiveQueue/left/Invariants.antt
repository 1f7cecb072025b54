use Rattle.std.proofs.Common.{◌≡◌, drop, take}
use Rattle.vq_layer.specs.Queues.{left_by_batches}
use Rattle.vq_layer.proofs.queue.LiveQueue.left.Given as goal

abbrev pub invariant-loop-i : goal.invariant-loop-i
invariant-loop-i l = left_by_batches l.timeline l.point l.left (drop l.i (take l.self.released l.self.batches)) ≡ left_by_batches l.timeline l.point l.refs (take l.self.released l.self.batches)
