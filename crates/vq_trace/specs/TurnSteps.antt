-- What taking a line leaves of the turns that were read.
use Rattle.std.specs.Prelude.{ℕ, ◌≡◌, List, Option, Some, None, Result, Ok, Err, ⊤}
use Rattle.vq_given.specs.declared.given.GivenTrace.{GivenTrace}
use Rattle.vq_given.specs.declared.given.TraceEnd.{TraceEnd}
use Rattle.vq_given.specs.declared.given.TraceFault.{TraceFault}
use Rattle.vq_given.specs.declared.given.TraceFault.TheVariants.{At, Memory}
use Rattle.vq_given.specs.declared.given.TraceLine.{TraceLine}
use Rattle.vq_given.specs.declared.given.TraceLine.TheVariants.{End}
use Rattle.vq_given.specs.Reading.{TurnsRead, go_on}
use Rattle.vq_trace.specs.declared.turns.Turns.{Turns}

abbrev pub turns_read : Turns → TurnsRead
turns_read turns = record { last = turns.last; events = turns.events.items }

-- A line leads on to the lines after it, ends the turns, or is faulty.
abbrev pub Takes : TurnsRead → ℕ → TraceLine → Result (Option TraceEnd) TraceFault → TurnsRead → Type 0
Takes before n said (Ok None) now =
    (lines : List (List ℕ)) (next : TurnsRead → Result GivenTrace ℕ) → go_on before n lines next said ≡ next now
Takes before n said (Ok (Some end)) now = (said ≡ End end) × (now ≡ before)
Takes before n said (Err (At m)) now =
    (m ≡ n)
    × ((lines : List (List ℕ)) (next : TurnsRead → Result GivenTrace ℕ) → go_on before n lines next said ≡ Err n)
Takes before n said (Err Memory) now = ⊤
