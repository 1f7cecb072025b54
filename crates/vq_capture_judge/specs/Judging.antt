-- The verdict on a capture, line by line, and its text. The format is this project's own.
use Rattle.std.specs.Prelude.{ℕ, List, [], ◌∷◌, ◌++◌, ◌+◌, length, take, codes, slice_get, Option, Some, None}
use Rattle.std.specs.Fmt.{decimal}
use Rattle.std.specs.Option.{option_map}
use Rattle.vq_model.specs.Text.{words_of}
use Rattle.vq_capture.specs.declared.capture.Step.{Step}
use Rattle.vq_capture.specs.declared.capture.FaultKind.{FaultKind}
use Rattle.vq_capture.specs.declared.capture.FaultKind.TheVariants.{Syntax, Order, Number, Stages, Name, Twice, Range}
use Rattle.vq_capture.specs.declared.capture.FaultKind.TheVariants.{NoSignal}
use Rattle.vq_capture.specs.declared.capture.Verdict.{Verdict}
use Rattle.vq_capture.specs.declared.capture.Verdict.TheVariants.{Ordered, Race, Faulty}
use Rattle.vq_capture.specs.Context.{Above, nothing_above}
use Rattle.vq_capture.specs.Reading.{Took, Leaves, IsFaulty, take_words, ended_lines}
use Rattle.vq_capture_check.specs.Watching.{ToldStep, Watched, tell, nothing_watched, race_line, watch_with}

-- what was read: the lines above, what their steps left, and the number of the next line
pub record Judging : Type 0 where
  pub above : Above
  pub watch : Watched
  pub line : ℕ

abbrev pub start_judging : Judging
start_judging = record { above = nothing_above; watch = nothing_watched; line = 1 }

-- what comes of a line: the reading goes on, or ends with a verdict
pub data Came : Type 0 where
  Goes : Judging → Came
  Ends : Verdict → Came

abbrev pub came_of_race : Judging → ToldStep → Option ℕ → Came
came_of_race j b (Some first) = Ends (Race first b.step.line)
came_of_race j b None = Goes (record j { watch = watch_with j.watch b })

abbrev pub with_told : Judging → ToldStep → Came
with_told j b = came_of_race j b (race_line j.watch b)

-- the step at a place among some, with the lines that release it
abbrev pub told_at : List Step → ℕ → Option ToldStep
told_at steps k = option_map (tell (take k steps)) (slice_get steps k)

abbrev pub came_of_told : Judging → Option ToldStep → Came
came_of_told j (Some b) = with_told j b
came_of_told j None = Goes j

-- the step that a line may have added to those above it
abbrev pub came_of_line : Judging → Took → Came
came_of_line j (IsFaulty kind) = Ends (Faulty (record { line = j.line; kind = kind }))
came_of_line j (Leaves now) =
    came_of_told (record j { above = now; line = j.line + 1 }) (told_at now.steps (length j.above.steps))

abbrev pub with_text : Judging → List ℕ → Came
with_text j text = came_of_line j (take_words j.above j.line (words_of text))

abbrev pub on_from : (Judging → Verdict) → Came → Verdict
on_from next (Goes now) = next now
on_from next (Ends verdict) = verdict

-- the verdict on lines, from what was read above them
abbrev pub judged : Judging → List (List ℕ) → Verdict
judged j [] = Ordered
judged j (text ∷ lines) = on_from (λ now. judged now lines) (with_text j text)

-- The verdict on a text, by the way that the check takes.
abbrev pub judged_text : List ℕ → Verdict
judged_text text = judged start_judging (ended_lines text)

-- Its text

abbrev pub kind_words : FaultKind → List ℕ
kind_words Syntax = codes "syntax"
kind_words Order = codes "order"
kind_words Number = codes "number"
kind_words Stages = codes "stages"
kind_words Name = codes "name"
kind_words Twice = codes "twice"
kind_words Range = codes "range"
kind_words NoSignal = codes "no signal"

-- The line that says a verdict.
abbrev pub verdict_text : Verdict → List ℕ
verdict_text Ordered = codes "ordered\n"
verdict_text (Race first second) =
    (codes "race: lines " ++ decimal first) ++ (codes " and " ++ decimal second ++ codes "\n")
verdict_text (Faulty fault) =
    codes "error: " ++ kind_words fault.kind ++ codes ": line " ++ decimal fault.line ++ codes "\n"
