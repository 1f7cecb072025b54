-- The state of a wait, and what one poll of it does. This project's own.
use Rattle.std.specs.Prelude.{ℕ, List, ◌≡◌, ◌<◌, Some, None, IfSome, length}
use Rattle.std.specs.List.{slice_get}
use Rattle.futures.specs.declared.task.context.Context.{Context}
use Rattle.futures.specs.declared.task.Poll.{Poll}
use Rattle.futures.specs.Poll.{IfReady}
use Rattle.vq_model.specs.Plan.{Plan}
use Rattle.vq_board_laws.specs.declared.view.View.{View}
use Rattle.vq_board.specs.declared.parts.Pass.{Pass}
use Rattle.vq_board.specs.Named.{view, IsOf}
use Rattle.vq_poll.specs.declared.awaited.Awaited.{Awaited}
use Rattle.vq_poll.specs.declared.bell.Bell.{Bell}
use Rattle.vq_poll.specs.declared.lent.WaitPairs.{WaitPairs}
use Rattle.vq_poll.specs.declared.pairs.Met.{Met}
use Rattle.vq_poll.specs.declared.pairs.Pair.{Pair}
use Rattle.vq_poll.specs.declared.pairs.WaitMode.{WaitMode}
use Rattle.vq_poll.specs.declared.pairs.WaitMode.TheVariants.{All, Any}
use Rattle.vq_poll.specs.declared.wait.Wait.{Wait}
use Rattle.vq_poll.specs.Looks.{Look, Reads, WasRead, AreOnce, AreHeard}
use Rattle.vq_poll.specs.Missing.{IsMet, KnowsMet, KnowsFirst}
use Rattle.vq_poll.specs.Watching.{IsWatched, ArePairs, plan_at}

-- the pairs can be read by the pass
pub record CanRead (a : Awaited) (x : Pass) : Type 0 where
  pub board_is : IsWatched a.watched
  pub pass_is : IsOf a.watched.board.now x
  pub pairs_are : ArePairs (plan_at a.watched) a.pairs.items

abbrev pub plan_in : Wait → Plan
plan_in w = plan_at w.awaited.watched

abbrev pub pairs_in : Wait → List Pair
pairs_in w = w.awaited.pairs.items

-- it has answered: this is the answer still
pub record IsAnswered (w : Wait) (x : Pass) (m : Met) : Type 0 where
  pub is_met : IsMet (plan_in w) w.mode (pairs_in w) m
  pub knows : KnowsMet (plan_in w) (view x).known (pairs_in w) m
  pub all : w.mode ≡ All → w.next ≡ length (pairs_in w)

-- The state in which a wait may be polled, with its pass. For all, it stands at the first pair that it
-- didn't find reached.
pub record CanWait (w : Wait) (x : Pass) : Type 0 where
  pub can_read : CanRead w.awaited x
  pub first : w.mode ≡ All → KnowsFirst (plan_in w) (view x).known (pairs_in w) w.next
  pub goes_on : w.met ≡ None → w.next < length (pairs_in w)
  pub ended : IfSome w.met (IsAnswered w x)

-- the same loans, pairs and mode
abbrev pub Stays : Wait → Wait → Type 0
Stays v w = (w.awaited ≡ v.awaited) × (w.mode ≡ v.mode)

-- the value was read of the chain of that pair
abbrev pub IsReadOf : List Pair → List Look → Met → Type 0
IsReadOf ps looks m = (x : Pair) → slice_get ps m.index ≡ Some x → WasRead looks x.chain m.value

-- What a poll did, from the one view of the pass to the other: it read chains, of each of which the
-- context hears the bell. For any, it read no chain twice. Where it gave the first answer, the value was
-- read in it.
pub record HasPolled (w : Wait) (before after : View) (cx : Context) (answer : Poll Met) : Type 0 where
  pub looks : List Look
  pub reads : Reads (plan_in w) before looks after
  pub heard : AreHeard cx w.awaited.watched.bells.now looks
  pub once : w.mode ≡ Any → AreOnce looks
  pub read : w.met ≡ None → IfReady answer (IsReadOf (pairs_in w) looks)
  pub again : IfSome w.met (λ m. answer ≡ Poll.Ready m)

-- the bells at which a wait waits: for all that of the pair at which it stands, for any those of all
abbrev pub WaitsAt : WaitMode → ℕ → ℕ → Type 0
WaitsAt All next i = i ≡ next
WaitsAt Any next i = Unit {0}

abbrev pub WaitsFor : Wait → ℕ → Type 0
WaitsFor w s =
    (i : ℕ) × (x : Pair) × (b : Bell) × WaitsAt w.mode w.next i × (slice_get (pairs_in w) i ≡ Some x)
    × (slice_get w.awaited.watched.bells.now x.chain ≡ Some b) × (s ≡ b.source.id)

-- of a wait with a lent pass
abbrev pub CanWaitLent : WaitPairs → Type 0
CanWaitLent w = CanWait w.wait w.pass.now

abbrev pub view_of : WaitPairs → View
view_of w = view w.pass.now

-- What a wait with a lent pass gives. From what its pass knew, reads of chains and nothing else lead to a view that
-- knows the value found, the initial one or that of a made operation, and for all each pair reached. The value was read
-- in one of them, unless the wait had answered before.
pub record MeetsLent (w : WaitPairs) (m : Met) : Type 0 where
  pub is_met : IsMet (plan_in w.wait) w.wait.mode (pairs_in w.wait) m
  pub looks : List Look
  pub after : View
  pub reads : Reads (plan_in w.wait) (view_of w) looks after
  pub read : w.wait.met ≡ None → IsReadOf (pairs_in w.wait) looks m
  pub knows : KnowsMet (plan_in w.wait) after.known (pairs_in w.wait) m
  pub knows_all : w.wait.mode ≡ All →
      KnowsFirst (plan_in w.wait) after.known (pairs_in w.wait) (length (pairs_in w.wait))
