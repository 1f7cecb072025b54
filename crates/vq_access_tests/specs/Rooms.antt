-- The rooms of the tests. This project's own.
use Rattle.std.specs.Prelude.{ℕ, ◌≡◌, List, Option, IfSome, All}
use Rattle.vq_model.specs.ValidScripts.{IsActor}
use Rattle.vq_board.specs.declared.parts.Board.{Board}
use Rattle.vq_board.specs.Named.{plan_of}
use Rattle.vq_timeline.specs.declared.timeline.LockedTimeline.{LockedTimeline}
use Rattle.vq_timeline.specs.Named.{IsAt, chain_at}
use Rattle.vq_board_run.specs.Rooming.{Room, IsRoomOf}

-- the room is of the board, and of one of its plan's actors
abbrev pub IsPlaced : Board → Room → Type 0
IsPlaced b r = IsRoomOf b r × IsActor (plan_of b).script r.owner

-- so is each that is there
abbrev pub ArePlaced : Board → List (Option Room) → Type 0
ArePlaced b rooms = All (λ x. IfSome x (IsPlaced b)) rooms

-- the timeline is the board's, of this chain
abbrev pub IsTimelineOf : Board → ℕ → LockedTimeline → Type 0
IsTimelineOf b n t = IsAt b t × (chain_at t ≡ n)
