use Rattle.std.proofs.Common.{◌≡◌, ◌++◌}
use Rattle.vq_hosts.proofs.joined.push_queues.Given as goal

abbrev pub invariant-loop-queue : goal.invariant-loop-queue
invariant-loop-queue l = l.queues.items ++ l.queue-iterator.rest.items ≡ l.fn.queues.items ++ l.fn.more.items
