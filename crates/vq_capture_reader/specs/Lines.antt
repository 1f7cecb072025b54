-- The lines above, as a reader keeps them, and what comes of a line.
use Rattle.std.specs.Prelude.{ℕ, List, [], ◌∷◌, ◌++◌, ◌≡◌, Option, Some, None}
use Rattle.std.specs.Option.{option_map}
use Rattle.vq_capture.specs.declared.capture.FaultKind.{FaultKind}
use Rattle.vq_capture.specs.declared.capture.Step.{Step}
use Rattle.vq_capture.specs.Context.{Above}
use Rattle.vq_capture.specs.Releases.{releases}
use Rattle.vq_capture.specs.Reading.{Took, Leaves, IsFaulty}
use Rattle.vq_capture_things.specs.Steps.{steps_of}
use Rattle.vq_capture_reader.specs.declared.added.Added.{Added}
use Rattle.vq_capture_reader.specs.declared.reader.Reader.{Reader}
use Rattle.vq_capture_reader.specs.Batches.{opened_of}
use Rattle.vq_capture_reader.specs.NameLists.{names_of}

-- what a reader was fed, as the lines above the next one
abbrev pub above_of : Reader → Above
above_of reader = record {
  steps = steps_of reader.things;
  names = names_of reader.names;
  thread = reader.thread;
  batch = option_map opened_of reader.batch;
}

-- what a line came to, by the fault that was named, if any
abbrev pub took_of : Option FaultKind → Above → Took
took_of None now = Leaves now
took_of (Some kind) now = IsFaulty kind

abbrev pub step_and_lines : Added → Step × List ℕ
step_and_lines added = (added.step, added.released.items)

-- the step that the last line added, if any, and the lines that release it
abbrev pub added_of : Reader → Option (Step × List ℕ)
added_of reader = option_map step_and_lines reader.added

-- Steps are those above and one more, which these lines release; or they are those above.
abbrev pub Adds : Option (Step × List ℕ) → List Step → List Step → Type 0
Adds None above now = now ≡ above
Adds (Some (step, lines)) above now =
    (now ≡ above ++ step ∷ []) × (lines ≡ releases above step.queue step.statement)
