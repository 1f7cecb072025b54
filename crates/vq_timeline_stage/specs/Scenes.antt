-- The board of the tests. This project's own.
use Rattle.std.specs.Prelude.{ℕ, List, [], ◌≡◌, ◌<◌, ◌≤◌, Some, length}
use Rattle.std.specs.List.{slice_get}
use Rattle.vq_board.specs.declared.parts.Board.{Board}
use Rattle.vq_board.specs.Named.{plan_of, IsOf}
use Rattle.vq_board_stage.specs.Holders.{HasSubmitted, HasReleased}
use Rattle.vq_timeline_stage.specs.Acting.{HasRun}
use Rattle.vq_timeline_stage.specs.TwoBatches.{IsOfTwoBatches}
use Rattle.vq_poll.specs.declared.pairs.Pair.{Pair}
use Rattle.vq_poll.specs.Watching.{AreTimelines}
use Rattle.vq_timeline_stage.specs.declared.watched.Actors.{Actors}
use Rattle.vq_timeline_stage.specs.declared.watched.Scene.{Scene}

-- the plan, with what is lent to waits
pub record IsScene (s : Scene) : Type 0 where
  pub plan_is : IsOfTwoBatches (plan_of s.board)
  pub timelines_are : AreTimelines s.board s.timelines.items
  pub bells_are : length s.bells.items ≡ 1

-- the passes have done nothing
pub record AreIdle (b : Board) (x : Actors) : Type 0 where
  pub host_new : HasSubmitted b x.host 0
  pub submitter_new : HasReleased b x.submitter 0 []
  pub ring_new : HasRun b x.ring []

-- they have submitted both batches and handed them on, and the ring has done nothing
pub record AreHandedOn (b : Board) (x : Actors) : Type 0 where
  pub host_is : IsOf b x.host
  pub submitter_is : IsOf b x.submitter
  pub ring_new : HasRun b x.ring []

-- one to sixteen pairs, each of the first chain
pub record AreOfFirst (ps : List Pair) : Type 0 where
  pub some : 0 < length ps
  pub few : length ps ≤ 16
  pub first : (i : ℕ) (x : Pair) → slice_get ps i ≡ Some x → x.chain ≡ 0
