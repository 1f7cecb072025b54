-- What is lent to a wait, and its pairs. This project's own.
use Rattle.std.specs.Prelude.{ℕ, List, ◌≡◌, ◌<◌, ◌≤◌, Some, length}
use Rattle.std.specs.List.{slice_get}
use Rattle.vq_model.specs.Checks.{IsLawful}
use Rattle.vq_model.specs.LoweredPlans.{IsPlan}
use Rattle.vq_model.specs.Plan.{Plan}
use Rattle.vq_board.specs.declared.parts.Board.{Board}
use Rattle.vq_board.specs.Named.{plan_of}
use Rattle.vq_timeline.specs.declared.timeline.LockedTimeline.{LockedTimeline}
use Rattle.vq_timeline.specs.Named.{IsAt, chain_at}
use Rattle.vq_poll.specs.declared.pairs.Pair.{Pair}
use Rattle.vq_poll.specs.declared.watched.WatchedBoard.{WatchedBoard}

-- one timeline of the board for each chain, in order
pub record AreTimelines (b : Board) (ts : List LockedTimeline) : Type 0 where
  pub whole : length ts ≡ length (plan_of b).chains
  pub each : (t : ℕ) (x : LockedTimeline) → slice_get ts t ≡ Some x → IsAt b x × (chain_at x ≡ t)

abbrev pub plan_at : WatchedBoard → Plan
plan_at w = plan_of w.board.now

-- the plan is a lawful one, and each chain has its timeline and its bell
pub record IsWatched (w : WatchedBoard) : Type 0 where
  pub read : IsPlan (plan_at w)
  pub lawful : IsLawful (plan_at w)
  pub timelines_are : AreTimelines w.board.now w.timelines.now
  pub bells_are : length w.bells.now ≡ length (plan_at w).chains

-- one to sixteen pairs, each on one of the chains
pub record ArePairs (p : Plan) (ps : List Pair) : Type 0 where
  pub some : 0 < length ps
  pub few : length ps ≤ 16
  pub exist : (i : ℕ) (x : Pair) → slice_get ps i ≡ Some x → x.chain < length p.chains
