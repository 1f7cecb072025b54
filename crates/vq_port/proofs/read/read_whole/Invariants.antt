use Rattle.std.proofs.Common.{◌≡◌, ◌+◌, ◌-◌, ◌≤◌, length}
use Rattle.vq_port.specs.Reading.{Takes}
use Rattle.vq_port.proofs.read.read_whole.Given as goal

-- The bytes so far are what was taken, and no more than the limit.
abbrev pub invariant-loop-bytes : goal.invariant-loop-bytes
invariant-loop-bytes g l = record {
  within : length l.bytes.items ≤ l.limit;
  whole_piece : length l.piece ≡ 65536;
  counted : g.S.Source.faults l.fn.source ≤ g.S.Source.faults l.source;
  taken : Takes l.bytes.items (g.S.Source.left l.fn.source) (g.S.Source.left l.source);
}

abbrev pub decreases-loop-bytes : goal.decreases-loop-bytes
decreases-loop-bytes g l = l.limit + 1 - length l.bytes.items
