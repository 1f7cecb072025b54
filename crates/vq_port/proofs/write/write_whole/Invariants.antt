use Rattle.std.proofs.Common.{◌≡◌, ℕ, ◌≤◌, length, take, drop}
use Rattle.vq_port.specs.Writing.{Appends, StillTells}
use Rattle.vq_port.proofs.write.write_whole.Given as goal

-- So many bytes were written, and the rest are those behind.
abbrev pub invariant-loop-rest : goal.invariant-loop-rest
invariant-loop-rest g l = record {
  counted : g.K.Sink.faults l.fn.sink ≤ g.K.Sink.faults l.sink;
  done : ℕ;
  within : done ≤ length l.bytes;
  behind : l.rest ≡ drop done l.bytes;
  written : Appends (take done l.bytes) (g.K.Sink.written l.fn.sink) (g.K.Sink.written l.sink);
  tells : StillTells done (g.K.Sink.written l.fn.sink) (g.K.Sink.written l.sink) (g.K.Sink.room l.fn.sink) (g.K.Sink.room l.sink);
}

abbrev pub decreases-loop-rest : goal.decreases-loop-rest
decreases-loop-rest g l = length l.rest
