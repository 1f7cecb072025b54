use Rattle.std.proofs.Common.{◌≡◌, length}
use Rattle.vq_capture.specs.Reading.{ended_lines, read_capture, read_lines}
use Rattle.vq_capture_reader.specs.Lines.{above_of}
use Rattle.vq_capture_memory_judge.specs.ToldSteps.{told_all, told_of}
use Rattle.vq_capture_memory_judge.proofs.reading.read_steps.Given as goal

abbrev pub invariant-loop-part : goal.invariant-loop-part
invariant-loop-part l =
    (told_of l.steps.items ≡ told_all (above_of l.reader).steps)
    × (read_lines (above_of l.reader) l.line (ended_lines l.rest) ≡ read_capture l.text)

abbrev pub decreases-loop-part : goal.decreases-loop-part
decreases-loop-part l = length l.rest
