use Rattle.std.proofs.Common.{◌≡◌, drop}
use Rattle.vq_layer.specs.Queues.{queues_bring}
use Rattle.vq_layer.proofs.stuck.queues_bring.Given as goal

abbrev pub invariant-loop-i : goal.invariant-loop-i
invariant-loop-i l = queues_bring l.wanted (drop l.i l.queues) ≡ queues_bring l.wanted l.queues
