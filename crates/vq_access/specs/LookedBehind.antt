-- Looks behind the events that the lists of a chain made. This project's own.
use Rattle.std.specs.Prelude.{Bool, true, false, ◌≡◌, ◌<◌, length}
use Rattle.vq_model.specs.declared.plan.Event.{Event}
use Rattle.vq_model.specs.Plan.{Plan}
use Rattle.vq_board_laws.specs.declared.view.View.{View}
use Rattle.vq_board.specs.declared.parts.Pass.{Pass}
use Rattle.vq_board.specs.Named.{view}
use Rattle.vq_timeline.specs.declared.parts.Collected.{Collected}
use Rattle.vq_timeline.specs.declared.parts.Collected.TheVariants.{Completed, Freed, Nothing}
use Rattle.vq_access_laws.specs.Causes.{IsMade}
use Rattle.vq_access.specs.Taken.{HasLearned}

-- what was collected is there: the operation, or the point, of which there are no more than operations
abbrev pub IsThere : Plan → Collected → Type 0
IsThere p (Completed e) = e < length p.ops
IsThere p (Freed q) = q < length p.ops
IsThere p Nothing = Unit {0}

-- the last step of the pass doesn't show the event
abbrev pub IsUnshown : View → Event → Type 0
IsUnshown v event = ¬ IsMade v event 0

-- The pass looked behind an event and learned what it found: its last step shows the event exactly where the answer
-- is true.
pub record LooksBehind (x y : Pass) (event : Event) (answer : Bool) : Type 0 where
  pub learned : HasLearned x y
  pub shown : answer ≡ true → IsMade (view y) event (length (view x).steps)
  pub unshown : answer ≡ false → IsUnshown (view y) event
