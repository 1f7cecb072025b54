-- A capture, read: the steps of the lines above its first faulty one, and that fault. The format is this project's own.
use Rattle.std.specs.Prelude.{ℕ, List, [], ◌∷◌, ◌+◌, map, Option, Some, None, if◌then◌else◌}
use Rattle.std.specs.List.{slice_split}
use Rattle.std.specs.Option.{option_map_or}
use Rattle.std.specs.Str.Lines.{strip_carriage_return}
use Rattle.vq_model.specs.Text.{is_line_feed, words_of}
use Rattle.vq_capture.specs.declared.form.Form.{Form}
use Rattle.vq_capture.specs.declared.capture.Step.{Step}
use Rattle.vq_capture.specs.declared.capture.Fault.{Fault}
use Rattle.vq_capture.specs.declared.capture.FaultKind.{FaultKind}
use Rattle.vq_capture.specs.declared.capture.FaultKind.TheVariants.{Syntax}
use Rattle.vq_capture.specs.LineForms.{form_of}
use Rattle.vq_capture.specs.Context.{Above, nothing_above, is_in_batch}
use Rattle.vq_capture.specs.Statements.{with_line}
use Rattle.vq_capture.specs.LineFaults.{fault_of, are_plain}

-- Lines

abbrev pub without_last : List (List ℕ) → List (List ℕ)
without_last [] = []
without_last (part ∷ []) = []
without_last (part ∷ next ∷ parts) = part ∷ without_last (next ∷ parts)

-- The lines of a text that have ended, without the one carriage return at their ends. What follows the last line feed
-- isn't read.
abbrev pub ended_lines : List ℕ → List (List ℕ)
ended_lines text = map strip_carriage_return (without_last (slice_split is_line_feed text))

-- One line

-- What a line comes to: it leaves something, or it is faulty.
pub data Took : Type 0 where
  Leaves : Above → Took
  IsFaulty : FaultKind → Took

abbrev pub take_form : Above → ℕ → List (List ℕ) → Form → Took
take_form above line words form =
    option_map_or (λ kind. IsFaulty kind) (fault_of above line form words) (Leaves (with_line above line form words))

-- a line by its words; without words it says nothing
abbrev pub take_words : Above → ℕ → List (List ℕ) → Took
take_words above line [] = Leaves above
take_words above line (word ∷ words) =
    if are_plain (word ∷ words)
    then option_map_or (take_form above line (word ∷ words)) (form_of (is_in_batch above) (word ∷ words))
    (IsFaulty Syntax)
    else IsFaulty Syntax

-- All lines

-- What was read of a capture.
pub record Read : Type 0 where
  pub steps : List Step
  pub fault : Option Fault

-- a line leads on to the lines below it, or is the first fault
abbrev pub go_on : Above → ℕ → (Above → Read) → Took → Read
go_on above line next (Leaves now) = next now
go_on above line next (IsFaulty kind) = record {
  steps = above.steps;
  fault = Some (record { line = line; kind = kind });
}

-- lines from a number on, below those above them
abbrev pub read_lines : Above → ℕ → List (List ℕ) → Read
read_lines above line [] = record { steps = above.steps; fault = None }
read_lines above line (text ∷ lines) =
    go_on above line (λ now. read_lines now (line + 1) lines) (take_words above line (words_of text))

-- What is read of a text.
abbrev pub read_capture : List ℕ → Read
read_capture text = read_lines nothing_above 1 (ended_lines text)
