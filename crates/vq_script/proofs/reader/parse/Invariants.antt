use Rattle.std.proofs.Common.{◌≡◌, ◌+◌, List, length, []}
use Rattle.vq_model.specs.declared.statement.Line.{Line}
use Rattle.vq_model.specs.Text.{lines_of}
use Rattle.vq_model.specs.Reading.{read_lines}
use Rattle.vq_script.specs.Reads.{HasRead}
use Rattle.vq_script.proofs.reader.parse.Given as goal

-- the reader has read some lines, and reading on from here after them gives what reading the whole text gives
abbrev pub invariant-loop-line : goal.invariant-loop-line
invariant-loop-line l = record {
  read : List Line;
  has_read : HasRead l.fn.form read l.reader;
  same : read_lines l.fn.form read l.number (lines_of l.rest) ≡ read_lines l.fn.form [] 1 (lines_of l.fn.bytes);
  counted : l.number + length (lines_of l.rest) ≡ 1 + length (lines_of l.fn.bytes);
}

abbrev pub decreases-loop-line : goal.decreases-loop-line
decreases-loop-line l = length l.rest
