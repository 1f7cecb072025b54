-- Faults of a text by their lines, without going through the text, and the form in which a script's text is read. The
-- format is this project's own.
use Rattle.std.specs.Prelude.{ℕ, ◌+◌, List, [], ◌∷◌, ◌++◌, Ok, Err, ◌≡◌, true, false, length, if◌then◌else◌}
use Rattle.vq_model.specs.declared.statement.Line.{Line}
use Rattle.vq_model.specs.declared.statement.FaultKind.{FaultKind}
use Rattle.vq_model.specs.declared.statement.Form.{Form}
use Rattle.vq_model.specs.declared.statement.FaultKind.TheVariants.{Syntax}
use Rattle.vq_model.specs.LineFaults.{ends_early}
use Rattle.vq_model.specs.Reading.{read_line}
use Rattle.vq_model.specs.declared.script.Script.{Script}
use Rattle.vq_model.specs.declared.statement.Form.TheVariants.{Plain, Scheduled}

-- These lines have no fault, each after those before it; with them the statements are these.
abbrev pub HaveNoFault : Form → List Line → ℕ → List (List ℕ) → List Line → Type 0
HaveNoFault form before n [] statements = before ≡ statements
HaveNoFault form before n (line ∷ lines) statements =
    (now : List Line) × (read_line form before n line ≡ Ok now)
    × HaveNoFault form now (n + 1) lines statements

-- No line of a text has a fault, and it doesn't end too early; its statements are these.
pub record IsFaultless (form : Form) (lines : List (List ℕ)) (statements : List Line) : Type 0 where
  pub without : HaveNoFault form [] 1 lines statements
  pub ended : ends_early form statements ≡ false

-- the first of these lines has a fault of this kind first; where there is none, the text ends too
-- early
abbrev pub HasFaultHere : Form → List Line → ℕ → List (List ℕ) → FaultKind → Type 0
HasFaultHere form before n [] kind = (ends_early form before ≡ true) × (kind ≡ Syntax)
HasFaultHere form before n (line ∷ lines) kind = read_line form before n line ≡ Err kind

-- The lines before line n have no fault, and line n has one of this kind first; it may be the line
-- after the last.
pub record IsFirstFaultOf (form : Form) (before : List Line) (first : ℕ) (lines : List (List ℕ))
    (n : ℕ) (kind : FaultKind) : Type 0 where
  pub front : List (List ℕ)
  pub back : List (List ℕ)
  pub parts : lines ≡ front ++ back
  pub counted : n ≡ first + length front
  pub statements : List Line
  pub without : HaveNoFault form before first front statements
  pub here : HasFaultHere form statements n back kind

-- the form in which a script's text is read
abbrev pub form_of_script : Script → Form
form_of_script s = if s.scheduled then Scheduled else Plain
