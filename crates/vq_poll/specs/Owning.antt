-- A wait that owns its pass. This project's own.
use Rattle.std.specs.Prelude.{◌≡◌, IsSomeAnd, length}
use Rattle.vq_board.specs.declared.parts.Pass.{Pass}
use Rattle.vq_board.specs.Named.{view, IsOf}
use Rattle.vq_poll.specs.declared.owned.WaitOwned.{WaitOwned}
use Rattle.vq_poll.specs.declared.pairs.Met.{Met}
use Rattle.vq_poll.specs.declared.pairs.WaitMode.TheVariants.{All}
use Rattle.vq_poll.specs.declared.wait.Wait.{Wait}
use Rattle.vq_poll.specs.Missing.{IsMet, KnowsMet, KnowsFirst}
use Rattle.vq_poll.specs.Waiting.{CanWait, plan_in, pairs_in}

-- it has its pass, until it gives it back
abbrev pub CanWaitOwned : WaitOwned → Type 0
CanWaitOwned w = IsSomeAnd w.pass (CanWait w.wait)

-- A pair was found reached; the pass that comes back is the board's and knows it, and for all knows each
-- pair reached.
pub record GivesBack (w : Wait) (m : Met) (x : Pass) : Type 0 where
  pub is_met : IsMet (plan_in w) w.mode (pairs_in w) m
  pub board_is : IsOf w.awaited.watched.board.now x
  pub knows : KnowsMet (plan_in w) (view x).known (pairs_in w) m
  pub knows_all : w.mode ≡ All → KnowsFirst (plan_in w) (view x).known (pairs_in w) (length (pairs_in w))
