-- What a judge was fed, and what came of a line.
use Rattle.std.specs.Prelude.{Option, Some, None}
use Rattle.vq_capture.specs.declared.capture.Verdict.{Verdict}
use Rattle.vq_capture_reader.specs.Lines.{above_of}
use Rattle.vq_capture_pruning.specs.PruningWatches.{watched_of}
use Rattle.vq_capture_judge.specs.declared.line_judge.Judge.{Judge}
use Rattle.vq_capture_judge.specs.Judging.{Judging, Came, Goes, Ends}

abbrev pub judging_of : Judge → Judging
judging_of judge = record {
  above = above_of judge.reader;
  watch = watched_of judge.watch;
  line = judge.line;
}

abbrev pub came_of : Option Verdict → Judging → Came
came_of None now = Goes now
came_of (Some verdict) now = Ends verdict
