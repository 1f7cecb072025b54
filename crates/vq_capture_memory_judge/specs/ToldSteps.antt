-- The steps of a text with the lines that release them, and the first of them that lacks a write.
use Rattle.std.specs.Prelude.{ℕ, Bool, true, false, List, [], ◌∷◌, ◌++◌, ◌≡◌, map, Option, Some, None}
use Rattle.std.specs.Option.{option_map_or}
use Rattle.vq_model.specs.Text.{words_of}
use Rattle.vq_capture.specs.declared.capture.Step.{Step}
use Rattle.vq_capture.specs.declared.capture.FaultKind.{FaultKind}
use Rattle.vq_capture.specs.Releases.{releases}
use Rattle.vq_capture.specs.Context.{Above}
use Rattle.vq_capture.specs.Reading.{Leaves, IsFaulty, take_words, read_capture}
use Rattle.vq_capture_reader.specs.declared.added.Added.{Added}
use Rattle.vq_capture_reader.specs.Lines.{step_and_lines}
use Rattle.vq_capture_seen.specs.Ways.{ToldPoint, told_points, unseen_line}

-- steps below some, each with the lines that release it
abbrev pub told_on : List Step → List Step → List (Step × List ℕ)
told_on above [] = []
told_on above (s ∷ steps) = (s, releases above s.queue s.statement) ∷ told_on (above ++ s ∷ []) steps

abbrev pub told_all : List Step → List (Step × List ℕ)
told_all steps = told_on [] steps

abbrev pub told_of : List Added → List (Step × List ℕ)
told_of steps = map step_and_lines steps

-- What came of a line of a text: it leaves steps of which each is still told if it was; or it is faulty.
abbrev pub TookLine : Bool → ℕ → List ℕ → Above → Above → List (Step × List ℕ) → List (Step × List ℕ) → Type 0
TookLine true line text above now before after =
    (take_words above line (words_of text) ≡ Leaves now) × (before ≡ told_all above.steps → after ≡ told_all now.steps)
TookLine false line text above now before after =
    ((kind : FaultKind) × (take_words above line (words_of text) ≡ IsFaulty kind)) × (after ≡ before)

-- The first of some steps that lacks a write, behind the last line of such a write; these are the points above them.
abbrev pub first_lacking : List ToldPoint → List (Step × List ℕ) → Option (ℕ × ℕ)
first_lacking above [] = None
first_lacking above (told ∷ rest) =
    option_map_or (λ line. Some (line, told.0.line)) (unseen_line above told.0 told.1)
    (first_lacking (above ++ told_points told.0 told.1) rest)

abbrev pub lacking_in : List ℕ → Option (ℕ × ℕ)
lacking_in text = first_lacking [] (told_all (read_capture text).steps)
