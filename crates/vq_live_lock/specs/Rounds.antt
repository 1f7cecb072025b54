-- What a round of looks at several pairs came to. This project's own.
use Rattle.std.specs.Prelude.{List}
use Rattle.vq_live_lock.specs.declared.waiting.Wanted.{Wanted}
use Rattle.vq_live_lock.specs.declared.waits.Round.{Round}
use Rattle.vq_live_lock.specs.declared.waits.Round.TheVariants.{Met, Noted, Rung}
use Rattle.vq_live_lock.specs.Waits.{IsMetAt}

abbrev pub IsRound : List Wanted → Round → Type 0
IsRound ws (Met i r) = IsMetAt ws i r
IsRound ws (Noted rings) = Unit {0}
IsRound ws Rung = Unit {0}
