-- What a turn over a board shows of what it came to. This project's own.
use Rattle.std.specs.Prelude.{ℕ}
use Rattle.vq_turns.specs.declared.outcome.Outcome.{Outcome}
use Rattle.vq_turns.specs.declared.outcome.Outcome.TheVariants.{Moved, Blocked, Ended}
use Rattle.vq_board_laws.specs.declared.view.View.{View}
use Rattle.vq_board.specs.declared.parts.Pass.{Pass}
use Rattle.vq_board.specs.Named.{view}
use Rattle.vq_access_laws.specs.Causes.{IsMade, IsShown, Refusals}

-- What a turn came to, since a moment of the record: an event that the pass made by its last step, or found made by it
-- where the lists of a chain made it; or a want.
abbrev pub IsShownAt : View → Refusals → Outcome → ℕ × ℕ → Type 0
IsShownAt v r (Moved event) since = IsMade v event since.0
IsShownAt v r (Blocked want) since = IsShown v.steps r want since
IsShownAt v r Ended since = Unit {0}

-- the same, of a pass
abbrev pub IsShownBy : Pass → Refusals → Outcome → ℕ × ℕ → Type 0
IsShownBy x r = IsShownAt (view x) r
