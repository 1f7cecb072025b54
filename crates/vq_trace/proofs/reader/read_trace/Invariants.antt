use Rattle.std.proofs.Common.{◌≡◌, ◌+◌, length}
use Rattle.vq_model.specs.Text.{lines_of}
use Rattle.vq_given.specs.Reading.{read_from, read_trace}
use Rattle.vq_trace.specs.TurnSteps.{turns_read}
use Rattle.vq_trace.proofs.reader.read_trace.Given as goal

-- reading on from here gives what reading the whole trace gives
abbrev pub invariant-loop-line : goal.invariant-loop-line
invariant-loop-line l = record {
  same : read_from l.plan (turns_read l.turns) l.number (lines_of l.rest) ≡ read_trace l.plan l.fn.first l.fn.bytes;
  counted : l.number + length (lines_of l.rest) ≡ l.fn.first + length (lines_of l.fn.bytes);
}

abbrev pub decreases-loop-line : goal.decreases-loop-line
decreases-loop-line l = length l.rest
