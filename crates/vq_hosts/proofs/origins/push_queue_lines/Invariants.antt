use Rattle.std.proofs.Common.{◌≡◌, ◌++◌, map, take}
use Rattle.vq_hosts.proofs.origins.push_queue_lines.Given as goal

abbrev pub invariant-loop-queue : goal.invariant-loop-queue
invariant-loop-queue l = l.lines.items ≡ l.fn.lines.items ++ map (λ x. x.line) (take l.queue-index l.queues)
