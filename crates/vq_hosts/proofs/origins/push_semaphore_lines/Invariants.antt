use Rattle.std.proofs.Common.{◌≡◌, ◌++◌, map, take}
use Rattle.vq_hosts.proofs.origins.push_semaphore_lines.Given as goal

abbrev pub invariant-loop-semaphore : goal.invariant-loop-semaphore
invariant-loop-semaphore l = l.lines.items ≡ l.fn.lines.items ++ map (λ x. x.line) (take l.semaphore-index l.semaphores)
