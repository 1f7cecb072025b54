use Rattle.std.proofs.Common.{◌≡◌, ◌++◌, ◌+◌, length, replicate}
use Rattle.vq_hosts.proofs.origins.push_batch_line.Given as goal

abbrev pub invariant-loop : goal.invariant-loop
invariant-loop l = l.lines.items ≡ l.fn.lines.items ++ replicate l.counter l.batch.line

abbrev pub invariant-loop-2 : goal.invariant-loop-2
invariant-loop-2 l = l.lines.items ≡ l.fn.lines.items ++ replicate (length l.batch.waits + l.counter) l.batch.line
