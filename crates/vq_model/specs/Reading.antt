-- A text, read: the script that it stands for, or its first line with a fault and the first kind of
-- that line's faults. The format is this project's own.
use Rattle.std.specs.Prelude.{ℕ, ◌+◌, List, [], ◌∷◌, ◌++◌, Option, Some, None, Result, Ok, Err}
use Rattle.std.specs.Prelude.{if◌then◌else◌, ◌≡◌}
use Rattle.std.specs.Option.{option_map_or}
use Rattle.vq_model.specs.declared.statement.Statement.{Statement}
use Rattle.vq_model.specs.declared.statement.Line.{Line}
use Rattle.vq_model.specs.declared.statement.FaultKind.{FaultKind}
use Rattle.vq_model.specs.declared.statement.Form.{Form}
use Rattle.vq_model.specs.declared.statement.FaultKind.TheVariants.{Syntax}
use Rattle.vq_model.specs.declared.script.Script.{Script}
use Rattle.vq_model.specs.LineFaults.{fault_of, ends_early}
use Rattle.vq_model.specs.Meaning.{meaning}
use Rattle.vq_model.specs.Text.{words_of, lines_of}
use Rattle.vq_model.specs.ScriptOfLines.{script_of}

-- Line by line

abbrev pub with_line : List Line → ℕ → Statement → List Line
with_line before n s = before ++ record { number = n; statement = s } ∷ []

-- the lines up to this one, whose words have no fault or this one
abbrev pub without_fault : Option FaultKind → List Line → Result (List Line) FaultKind
without_fault None lines = Ok lines
without_fault (Some kind) lines = Err kind

-- the lines up to this one, or its fault; a line without words is skipped
abbrev pub read_statement : Form → List Line → ℕ → List (List ℕ) → Result (List Line) FaultKind
read_statement form before n [] = Ok before
read_statement form before n (word ∷ words) =
    without_fault (fault_of form before (word
    ∷ words)) (option_map_or (with_line before n) (meaning form before (word ∷ words)) before)

abbrev pub read_line : Form → List Line → ℕ → List ℕ → Result (List Line) FaultKind
read_line form before n line = read_statement form before n (words_of line)

-- what follows where a line has no fault, or the fault with the line's number
abbrev pub go_on : {A : Type 0} → ℕ → (List Line → Result A (ℕ × FaultKind)) →
    Result (List Line) FaultKind → Result A (ℕ × FaultKind)
go_on n next (Ok now) = next now
go_on n next (Err kind) = Err (n, kind)

-- all lines as statements, or the number of the first line with a fault and its first kind
abbrev pub read_lines : Form → List Line → ℕ → List (List ℕ) → Result (List Line) (ℕ × FaultKind)
read_lines form before n [] = if ends_early form before then Err (n, Syntax) else Ok before
read_lines form before n (line ∷ lines) =
    go_on n (λ now. read_lines form now (n + 1) lines) (read_line form before n line)

-- The whole text

-- the script of lines that were read, or their fault
abbrev pub script_or_fault : Result (List Line) (ℕ × FaultKind) → Result Script (ℕ × FaultKind)
script_or_fault (Ok lines) = Ok (script_of lines)
script_or_fault (Err fault) = Err fault

-- The script of a text, or the first line with a fault and the first kind of that line's faults.
abbrev pub read_script : List ℕ → Form → Result Script (ℕ × FaultKind)
read_script text form = script_or_fault (read_lines form [] 1 (lines_of text))

-- A text stands for a script.
abbrev pub StandsFor : List ℕ → Form → Script → Type 0
StandsFor text form script = read_script text form ≡ Ok script

-- A text's first line with a fault, and that line's first kind.
abbrev pub IsFirstFault : List ℕ → Form → ℕ → FaultKind → Type 0
IsFirstFault text form n kind = read_script text form ≡ Err (n, kind)
