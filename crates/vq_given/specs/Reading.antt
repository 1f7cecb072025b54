-- A trace, read: its events with their lines, its end and what follows it, or its first faulty line. The format is
-- this project's own.
use Rattle.std.specs.Prelude.{ℕ, Bool, true, List, [], ◌∷◌, ◌+◌, ◌++◌, nat_lt, Option, Some, None, Result, Ok, Err}
use Rattle.std.specs.Prelude.{if◌then◌else◌}
use Rattle.std.specs.Option.{option_map_or}
use Rattle.std.specs.List.{join_with_byte}
use Rattle.vq_model.specs.Plan.{Plan}
use Rattle.vq_model.specs.Text.{words_of, lines_of}
use Rattle.vq_given.specs.declared.given.GivenEvent.{GivenEvent}
use Rattle.vq_given.specs.declared.given.GivenLine.{GivenLine}
use Rattle.vq_given.specs.declared.given.GivenTrace.{GivenTrace}
use Rattle.vq_given.specs.declared.given.TraceTurn.{TraceTurn}
use Rattle.vq_given.specs.declared.given.TraceEnd.{TraceEnd}
use Rattle.vq_given.specs.declared.given.TraceLine.{TraceLine}
use Rattle.vq_given.specs.declared.given.TraceLine.TheVariants.{Blank, Turn, End, Faulty}
use Rattle.vq_given.specs.Words.{line_said}

-- The turns that were read: the number of the last one, and the events of all.
pub record TurnsRead : Type 0 where
  pub last : Option ℕ
  pub events : List GivenEvent

abbrev pub no_turns : TurnsRead
no_turns = record { last = None; events = [] }

-- a turn's number is above that of the turn before
abbrev pub follows : Option ℕ → ℕ → Bool
follows last number = option_map_or (λ n. nat_lt n number) last true

-- the event of a turn at a line
abbrev pub event_at : ℕ → TraceTurn → List GivenEvent
event_at line turn =
    option_map_or (λ event. record { line = line; actor = turn.actor; event = event } ∷ []) turn.event []

abbrev pub with_turn : TurnsRead → ℕ → TraceTurn → TurnsRead
with_turn before line turn =
    record { last = Some turn.number; events = before.events ++ event_at line turn }

-- The rest

-- a line's words with one space between two, where it has words
abbrev pub rest_line : ℕ → List (List ℕ) → List GivenLine
rest_line line [] = []
rest_line line (word ∷ words) = record { line = line; text = join_with_byte 32 (word ∷ words) } ∷ []

-- the lines with words, numbered from a number on
abbrev pub rest_from : ℕ → List (List ℕ) → List GivenLine
rest_from n [] = []
rest_from n (line ∷ lines) = rest_line n (words_of line) ++ rest_from (n + 1) lines

-- the trace that ends at a line
abbrev pub ended_at : TurnsRead → ℕ → TraceEnd → List GivenLine → GivenTrace
ended_at before n end rest =
    record { events = before.events; end_line = n; finished = end.finished; left = end.left; rest = rest }

-- Line by line

-- What a line says leads on to the lines after it, ends the turns, or is the first fault. A turn's number has to
-- follow that of the turn before.
abbrev pub go_on : TurnsRead → ℕ → List (List ℕ) → (TurnsRead → Result GivenTrace ℕ) → TraceLine →
    Result GivenTrace ℕ
go_on before n lines next Blank = next before
go_on before n lines next (Turn turn) =
    if follows before.last turn.number then next (with_turn before n turn) else Err n
go_on before n lines next (End end) = Ok (ended_at before n end (rest_from (n + 1) lines))
go_on before n lines next Faulty = Err n

-- the trace of lines that are numbered from a number on, or the first faulty one; where no line ends the turns, the
-- one after the last is faulty
abbrev pub read_from : Plan → TurnsRead → ℕ → List (List ℕ) → Result GivenTrace ℕ
read_from p before n [] = Err n
read_from p before n (line ∷ lines) =
    go_on before n lines (λ now. read_from p now (n + 1) lines) (line_said p (words_of line))

-- The trace of a text whose first line has this number, or the number of its first faulty line.
abbrev pub read_trace : Plan → ℕ → List ℕ → Result GivenTrace ℕ
read_trace p first text = read_from p no_turns first (lines_of text)
