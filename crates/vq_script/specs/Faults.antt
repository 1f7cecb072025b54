-- What the form of a line and the words at its places say, after lines before it: its statement, or the
-- first kind of its faults.
use Rattle.std.specs.Prelude.{ℕ, ◌≡◌, Bool, not, false, find, List, map, Option, Some, None, Result}
use Rattle.std.specs.Prelude.{Ok, Err}
use Rattle.std.specs.List.{list_all}
use Rattle.std.specs.Option.{option_map_or}
use Rattle.vq_model.specs.declared.statement.FaultKind.{FaultKind}
use Rattle.vq_model.specs.declared.statement.FaultKind.TheVariants.{Syntax, Order, Number, Name, Twice, Range, Overlap}
use Rattle.vq_model.specs.declared.statement.FaultKind.TheVariants.{Limit}
use Rattle.vq_model.specs.declared.statement.Statement.{Statement}
use Rattle.vq_model.specs.declared.statement.Line.{Line}
use Rattle.vq_model.specs.Earlier.{Earlier, earlier}
use Rattle.vq_model.specs.LineFaults.{is_shaped, is_numeric, is_known, is_new, is_out_of_order, is_in_range, overlaps}
use Rattle.vq_model.specs.LineFaults.{kinds, passes_limit}
use Rattle.vq_model.specs.Meaning.{statement_of}
use Rattle.vq_model.specs.declared.statement.LineForm.{LineForm}
use Rattle.vq_model.specs.Forms.{Slot, places}
use Rattle.vq_model.specs.Meaning.{open_places}

-- a form with its open places and the words there
abbrev pub OpenLine : Type 0
OpenLine = LineForm × List (Slot × List ℕ)

-- the open places of a form with these words
abbrev pub with_words : List (List ℕ) → LineForm → OpenLine
with_words words form = (form, open_places (places form) words)

-- the statement of a line, after lines that answer so
abbrev pub said_at : Earlier → OpenLine → Option Statement
said_at e line = statement_of e.number line.0 (map (λ x. x.1) line.1)

-- whether a line has a fault of a kind
abbrev pub has_fault_at : Earlier → OpenLine → FaultKind → Bool
has_fault_at e line Syntax = not (list_all is_shaped line.1)
has_fault_at e line Order = is_out_of_order e line.0
has_fault_at e line Number = not (list_all is_numeric line.1)
has_fault_at e line Name = not (list_all (is_known e.number) line.1)
has_fault_at e line Twice = not (list_all (is_new e.taken) line.1)
has_fault_at e line Range = option_map_or (λ s. not (is_in_range e s)) (said_at e line) false
has_fault_at e line Overlap = option_map_or (overlaps e.buffers) (said_at e line) false
has_fault_at e line Limit = option_map_or (passes_limit e) (said_at e line) false

-- the first kind of a line's faults
abbrev pub fault_by : Earlier → OpenLine → Option FaultKind
fault_by e line = find (has_fault_at e line) kinds

-- the same after these lines
abbrev pub statement_at : List Line → OpenLine → Option Statement
statement_at before line = said_at (earlier before) line

abbrev pub first_fault : List Line → OpenLine → Option FaultKind
first_fault before line = fault_by (earlier before) line

-- A line has no fault, and its statement is what is made of the value; or it has this fault first.
abbrev pub TellsBy : {A : Type 0} → Earlier → OpenLine → (A → Statement) → Result A FaultKind → Type 0
TellsBy e line says (Ok value) =
    (fault_by e line ≡ None) × (said_at e line ≡ Some (says value))
TellsBy e line says (Err kind) = fault_by e line ≡ Some kind

abbrev pub Tells : {A : Type 0} → List Line → OpenLine → (A → Statement) → Result A FaultKind → Type 0
Tells before line says result = TellsBy (earlier before) line says result
