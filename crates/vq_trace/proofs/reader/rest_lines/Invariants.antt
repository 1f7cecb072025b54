use Rattle.std.proofs.Common.{◌≡◌, ◌+◌, ◌++◌, length}
use Rattle.vq_model.specs.Text.{lines_of}
use Rattle.vq_given.specs.Reading.{rest_from}
use Rattle.vq_trace.proofs.reader.rest_lines.Given as goal

abbrev pub invariant-loop-line : goal.invariant-loop-line
invariant-loop-line l = record {
  same : l.lines.items ++ rest_from l.number (lines_of l.rest) ≡ rest_from l.fn.first (lines_of l.fn.text);
  counted : l.number + length (lines_of l.rest) ≡ l.fn.first + length (lines_of l.fn.text);
}

abbrev pub decreases-loop-line : goal.decreases-loop-line
decreases-loop-line l = length l.rest
