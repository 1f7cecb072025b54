-- What one poll has seen so far: of each pair the value that was read of its chain at it, if any. This
-- project's own.
use Rattle.std.specs.Prelude.{ℕ, List, ◌≡◌, Option, Some}
use Rattle.std.specs.List.{slice_get}
use Rattle.futures.specs.declared.task.context.Context.{Context}
use Rattle.futures.specs.Task.{IsArmed}
use Rattle.vq_board_laws.specs.declared.view.View.{View}
use Rattle.vq_poll.specs.declared.awaited.Awaited.{Awaited}
use Rattle.vq_poll.specs.declared.pairs.Pair.{Pair}
use Rattle.vq_poll.specs.Hearing.{HearsBell}
use Rattle.vq_poll.specs.Looks.{Look, Reads, WasRead, AreOnce, AreHeard}
use Rattle.vq_poll.specs.Watching.{plan_at}

-- the chain was read at one of the pairs, with this value
abbrev pub IsSeen : List Pair → List (Option ℕ) → ℕ → ℕ → Type 0
IsSeen ps seen t n =
    (i : ℕ) × (x : Pair) × (slice_get ps i ≡ Some x) × (x.chain ≡ t) × (slice_get seen i ≡ Some (Some n))

abbrev pub NotSeen : List Pair → List (Option ℕ) → ℕ → Type 0
NotSeen ps seen t = (n : ℕ) → ¬ IsSeen ps seen t n

-- From the one view to the other the pass read chains, none twice, of each of which the context hears
-- the bell; what is seen is what was read.
pub record Looked (a : Awaited) (v w : View) (cx : Context) (seen : List (Option ℕ)) : Type 0 where
  pub looks : List Look
  pub reads : Reads (plan_at a.watched) v looks w
  pub heard : AreHeard cx a.watched.bells.now looks
  pub once : AreOnce looks
  pub noted : (t n : ℕ) → IsSeen a.pairs.items seen t n → WasRead looks t n
  pub whole : (t n : ℕ) → WasRead looks t n → IsSeen a.pairs.items seen t n
  pub arms : (t n : ℕ) → WasRead looks t n → IsArmed cx

-- the same, and the value was read of the pair's chain
pub record HasValue (a : Awaited) (v w : View) (cx : Context) (seen : List (Option ℕ)) (index n : ℕ) : Type 0 where
  pub looked : Looked a v w cx seen
  pub read : (x : Pair) → slice_get a.pairs.items index ≡ Some x → WasRead looked.looks x.chain n
  pub hears : (x : Pair) → slice_get a.pairs.items index ≡ Some x → HearsBell cx a.watched.bells.now x.chain
  pub armed : IsArmed cx
