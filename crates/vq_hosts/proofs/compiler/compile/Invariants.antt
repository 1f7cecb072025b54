use Rattle.std.proofs.Common.{◌≡◌, ◌+◌, length}
use Rattle.vq_model.specs.Text.{lines_of}
use Rattle.vq_blocks.specs.Blocks.{Told}
use Rattle.vq_blocks.specs.BlockReading.{read_hosts, read_hosts_lines}
use Rattle.vq_hosts.specs.HasTold.{HasTold}
use Rattle.vq_hosts.proofs.compiler.compile.Given as goal

-- the reader has read what was told, and reading on from here after it gives what reading the whole text gives
abbrev pub invariant-loop-line : goal.invariant-loop-line
invariant-loop-line l = record {
  told : Told;
  has_told : HasTold told l.reader;
  same : read_hosts_lines told l.number (lines_of l.rest) ≡ read_hosts l.fn.bytes;
  counted : l.number + length (lines_of l.rest) ≡ 1 + length (lines_of l.fn.bytes);
}

abbrev pub decreases-loop-line : goal.decreases-loop-line
decreases-loop-line l = length l.rest
