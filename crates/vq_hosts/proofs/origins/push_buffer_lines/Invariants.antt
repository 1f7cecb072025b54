use Rattle.std.proofs.Common.{◌≡◌, ◌++◌, map, take}
use Rattle.vq_hosts.proofs.origins.push_buffer_lines.Given as goal

abbrev pub invariant-loop-buffer : goal.invariant-loop-buffer
invariant-loop-buffer l = l.lines.items ≡ l.fn.lines.items ++ map (λ x. x.line) (take l.buffer-index l.buffers)
