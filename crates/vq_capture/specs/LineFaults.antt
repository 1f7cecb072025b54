-- The faults of a line: one test for each kind, and the order of the kinds. The format is this project's own.
use Rattle.std.specs.Prelude.{ℕ, Bool, true, false, List, [], ◌∷◌, ◌==◌, ◌&&◌, ◌||◌, ◌+◌, nat_lt, not, is_some}
use Rattle.std.specs.Prelude.{Option, zip, length, find, drop}
use Rattle.std.specs.List.{list_all}
use Rattle.std.specs.Option.{option_map_or}
use Rattle.vq_model.specs.Text.{is_plain, is_name, numeral}
use Rattle.vq_capture.specs.declared.form.Form.{Form}
use Rattle.vq_capture.specs.declared.statement.Kind.{Kind}
use Rattle.vq_capture.specs.declared.statement.Kind.TheVariants.{Queue, Binary, Timeline, Fence, Event, Resource}
use Rattle.vq_capture.specs.declared.statement.Kind.TheVariants.{Thread, Handed}
use Rattle.vq_capture.specs.declared.statement.Access.{Access}
use Rattle.vq_capture.specs.declared.statement.Statement.{Statement}
use Rattle.vq_capture.specs.declared.statement.Statement.TheVariants.{DeclareResource, HostAccess, CommandAccess}
use Rattle.vq_capture.specs.declared.statement.Statement.TheVariants.{Transition}
use Rattle.vq_capture.specs.declared.capture.FaultKind.{FaultKind}
use Rattle.vq_capture.specs.declared.capture.FaultKind.TheVariants.{Syntax, Order, Number, Stages as StagesFault}
use Rattle.vq_capture.specs.declared.capture.FaultKind.TheVariants.{Name, Twice, Range, NoSignal}
use Rattle.vq_capture.specs.MaskWords.{scope_of, access_scope_of}
use Rattle.vq_capture.specs.LineForms.{Place, NewName, NameOf, ThreadName, EndedName, Numeral, Stages, SomeStages}
use Rattle.vq_capture.specs.LineForms.{places, part_of}
use Rattle.vq_capture.specs.Releases.{length_of, releases, is_waiting}
use Rattle.vq_capture.specs.Context.{Above, Named, named}
use Rattle.vq_capture.specs.Statements.{statement, queue_of}

-- A word at its place

-- Syntax: a name's place holds a name
abbrev pub is_shaped : Place × List ℕ → Bool
is_shaped (NewName, word) = is_name word
is_shaped (NameOf kind, word) = is_name word
is_shaped (ThreadName, word) = is_name word
is_shaped (EndedName, word) = is_name word
is_shaped (other, word) = true

-- Number: a numeral's place holds a numeral
abbrev pub is_numeric : Place × List ℕ → Bool
is_numeric (Numeral, word) = is_some (numeral word)
is_numeric (other, word) = true

-- Stages: so does the place of stages
abbrev pub is_staged : Place × List ℕ → Bool
is_staged (Stages, word) = is_some (scope_of word)
is_staged (SomeStages, word) = is_some (access_scope_of word)
is_staged (other, word) = true

abbrev pub kind_number : Kind → ℕ
kind_number Queue = 0
kind_number Binary = 1
kind_number Timeline = 2
kind_number Fence = 3
kind_number Event = 4
kind_number Resource = 5
kind_number Thread = 6
kind_number Handed = 7

abbrev pub same_kind : Kind → Kind → Bool
same_kind a b = kind_number a == kind_number b

-- Name: a name is declared, of the kind that its place needs; a thread may be new, and what ends isn't the thread that
-- goes on
abbrev pub is_known : Above → Place × List ℕ → Bool
is_known above (NameOf kind, word) = option_map_or (λ n. same_kind n.kind kind) (named above.names word) false
is_known above (ThreadName, word) = option_map_or (λ n. same_kind n.kind Thread) (named above.names word) true
is_known above (EndedName, word) = option_map_or (λ n. not (n.line == above.thread)) (named above.names word) false
is_known above (other, word) = true

-- Twice: a name that is declared is new
abbrev pub is_new : List Named → Place × List ℕ → Bool
is_new names (NewName, word) = not (is_some (named names word))
is_new names (other, word) = true

-- some word of a line fails the test of its place
abbrev pub fails : (Place × List ℕ → Bool) → Form → List (List ℕ) → Bool
fails test form words = not (list_all test (zip (places form) (drop 1 words)))

-- The other tests

-- a line of a batch in an earlier part than the line above it, or a second fence
abbrev pub is_disordered : Above → Form → Bool
is_disordered above form =
    option_map_or (λ b. nat_lt (part_of form) b.part || ((part_of form == 4) && (b.part == 4))) above.batch false

-- units that aren't all in the resource, or none
abbrev pub is_outside : Above → Access → Bool
is_outside above a =
    (a.range.length == 0) || nat_lt (length_of above.steps a.resource) (a.range.offset + a.range.length)

abbrev pub is_out_of_range : Above → Statement → Bool
is_out_of_range above (DeclareResource n) = n == 0
is_out_of_range above (HostAccess access) = is_outside above access
is_out_of_range above (CommandAccess access scope) = is_outside above access
is_out_of_range above (Transition first second access) = is_outside above access
is_out_of_range above other = false

-- a wait for what no line above releases
abbrev pub is_unreleased : Above → Statement → Bool
is_unreleased above said =
    is_waiting above.steps said && (length (releases above.steps (queue_of above said) said) == 0)

-- The kinds, in their order

-- whether a line of a form has a fault of a kind behind `Syntax`
abbrev pub has_fault : Above → ℕ → Form → List (List ℕ) → FaultKind → Bool
has_fault above line form ws Syntax = fails is_shaped form ws
has_fault above line form ws Order = is_disordered above form
has_fault above line form ws Number = fails is_numeric form ws
has_fault above line form ws StagesFault = fails is_staged form ws
has_fault above line form ws Name = fails (is_known above) form ws
has_fault above line form ws Twice = fails (is_new above.names) form ws
has_fault above line form ws Range = is_out_of_range above (statement above line form ws)
has_fault above line form ws NoSignal = is_unreleased above (statement above line form ws)

abbrev pub fault_kinds : List FaultKind
fault_kinds =
    Syntax ∷ Order ∷ Number ∷ StagesFault ∷ Name ∷ Twice ∷ Range ∷ NoSignal ∷ []

-- the first fault of a line of a form
abbrev pub fault_of : Above → ℕ → Form → List (List ℕ) → Option FaultKind
fault_of above line form ws = find (has_fault above line form ws) fault_kinds

-- each byte of the words may stand outside a comment
abbrev pub are_plain : List (List ℕ) → Bool
are_plain words = list_all (list_all is_plain) words
