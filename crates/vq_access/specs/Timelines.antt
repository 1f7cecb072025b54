-- The timelines of a board, one for each chain of its plan. This project's own.
use Rattle.std.specs.Prelude.{ℕ, ◌≡◌, List, Option, Some, None, length}
use Rattle.std.specs.List.{slice_get}
use Rattle.vq_board.specs.declared.parts.Board.{Board}
use Rattle.vq_board.specs.Named.{plan_of}
use Rattle.vq_timeline.specs.declared.timeline.LockedTimeline.{LockedTimeline}
use Rattle.vq_model.specs.declared.plan.Event.{Event}
use Rattle.vq_model.specs.declared.plan.Event.TheVariants.{Complete, Free}
use Rattle.vq_model.specs.Plan.{Plan}
use Rattle.vq_timeline.specs.declared.parts.Collected.{Collected}
use Rattle.vq_timeline.specs.declared.parts.Collected.TheVariants.{Completed, Freed, Nothing}
use Rattle.vq_timeline.specs.Answers.{Collects}
use Rattle.vq_timeline.specs.Named.{IsAt, Asked, chain_at, state_of}

pub record AreOf (b : Board) (ts : List LockedTimeline) : Type 0 where
  pub count : length ts ≡ length (plan_of b).chains
  pub each : (t : ℕ) (x : LockedTimeline) → slice_get ts t ≡ Some x → IsAt b x × (chain_at x ≡ t)

-- the lists of a chain were asked to collect, and this is what they answered
abbrev pub HasAsked : Plan → LockedTimeline → Collected → Type 0
HasAsked p t result = Asked t (λ x y. Collects p (chain_at t) (state_of x) (state_of y) result)

-- they were asked, and answered this; or they were in use, where they may be
abbrev pub HasAskedOr : Type 0 → Plan → LockedTimeline → Option Collected → Type 0
HasAskedOr tries p t (Some result) = HasAsked p t result
HasAskedOr tries p t None = tries

-- the event that a collection made
abbrev pub collection : Collected → Option Event
collection (Completed e) = Some (Complete e)
collection (Freed q) = Some (Free q)
collection Nothing = None
