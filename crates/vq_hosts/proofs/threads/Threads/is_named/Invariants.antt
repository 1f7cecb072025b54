use Rattle.std.proofs.Common.{◌≡◌, drop}
use Rattle.std.specs.List.{list_any}
use Rattle.std.specs.Str.{bytes_eq}
use Rattle.vq_hosts.proofs.threads.Threads.is_named.Given as goal

abbrev pub invariant-loop-queue : goal.invariant-loop-queue
invariant-loop-queue l =
    list_any (λ q. bytes_eq l.name q.name) (drop l.queue-index l.self.queues.items)
    ≡ list_any (λ q. bytes_eq l.name q.name) l.self.queues.items
