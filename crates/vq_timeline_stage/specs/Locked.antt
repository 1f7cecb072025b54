-- The locked timeline of the tests. This project's own.
use Rattle.std.specs.Prelude.{◌≡◌}
use Rattle.vq_board.specs.declared.parts.Board.{Board}
use Rattle.vq_timeline.specs.declared.timeline.LockedTimeline.{LockedTimeline}
use Rattle.vq_timeline.specs.Named.{IsAt, chain_at}

-- it is that of the first chain of the board's plan
pub record IsFirstAt (b : Board) (t : LockedTimeline) : Type 0 where
  pub board : IsAt b t
  pub first : chain_at t ≡ 0
