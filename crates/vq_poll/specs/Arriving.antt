-- What a stream of arrivals gives. This project's own.
use Rattle.std.specs.Prelude.{ℕ, List, [], ◌∷◌, ◌≡◌, ◌<◌, Option, Some, IfSome, MatchOption, length}
use Rattle.std.specs.List.{slice_get, remove}
use Rattle.futures.specs.declared.task.context.Context.{Context}
use Rattle.futures.specs.declared.task.Poll.{Poll}
use Rattle.futures.specs.Poll.{IfReady}
use Rattle.vq_model.specs.Plan.{Plan}
use Rattle.vq_board_laws.specs.declared.view.View.{View}
use Rattle.vq_board.specs.Named.{view}
use Rattle.vq_poll.specs.declared.arrivals.Arrivals.{Arrivals}
use Rattle.vq_poll.specs.declared.bell.Bell.{Bell}
use Rattle.vq_poll.specs.declared.pairs.Met.{Met}
use Rattle.vq_poll.specs.declared.pairs.Pair.{Pair}
use Rattle.vq_poll.specs.Looks.{Look, Reads, AreOnce, AreHeard}
use Rattle.vq_poll.specs.Missing.{IsMissed, IsReached}
use Rattle.vq_poll.specs.Waiting.{CanRead, IsReadOf}
use Rattle.vq_poll.specs.Watching.{plan_at}

abbrev pub plan_on : Arrivals → Plan
plan_on a = plan_at a.awaited.watched

abbrev pub pairs_on : Arrivals → List Pair
pairs_on a = a.awaited.pairs.items

-- the state in which it may be polled: what is left are places of its pairs
pub record CanArrive (a : Arrivals) : Type 0 where
  pub can_read : CanRead a.awaited a.pass.now
  pub left_are : (k i : ℕ) → slice_get a.left.items k ≡ Some i → i < length (pairs_on a)

-- Some items and then one more answer may come from these places that are left: each item is one of them,
-- which is then gone, and its pair was found reached; the end comes where none is left.
abbrev pub Comes : Plan → List Pair → List ℕ → List Met → Option Met → Type 0
Comes p ps left [] last =
    MatchOption last (left ≡ []) (λ m. IsReached p ps m × ((k : ℕ) × (slice_get left k ≡ Some m.index)))
Comes p ps left (m ∷ ms) last =
    IsReached p ps m × ((k : ℕ) × (slice_get left k ≡ Some m.index) × Comes p ps (remove left k) ms last)

-- what one poll did: it read chains, none twice, of each of which the context hears the bell; the value of
-- an item was read in it
pub record HasArrived (a : Arrivals) (before after : View) (cx : Context) (answer : Poll (Option Met)) : Type 0 where
  pub looks : List Look
  pub reads : Reads (plan_on a) before looks after
  pub heard : AreHeard cx a.awaited.watched.bells.now looks
  pub once : AreOnce looks
  pub read : IfReady answer (λ o. IfSome o (IsReadOf (pairs_on a) looks))

-- each pair that is left was missed
abbrev pub AreLeftMissed : Arrivals → View → View → Type 0
AreLeftMissed a v w = (k i : ℕ) (x : Pair) → slice_get a.left.items k ≡ Some i → slice_get (pairs_on a) i ≡ Some x → IsMissed (plan_on a) v w x

-- an item is taken out of what is left
abbrev pub IsTaken : List ℕ → List ℕ → Met → Type 0
IsTaken left rest m = (k : ℕ) × (slice_get left k ≡ Some m.index) × (rest ≡ remove left k)

-- the bells of all pairs that are left
abbrev pub AwaitsAt : Arrivals → ℕ → Type 0
AwaitsAt a s =
    (k i : ℕ) × (x : Pair) × (b : Bell) × (slice_get a.left.items k ≡ Some i) × (slice_get (pairs_on a) i ≡ Some x)
    × (slice_get a.awaited.watched.bells.now x.chain ≡ Some b) × (s ≡ b.source.id)

abbrev pub view_at : Arrivals → View
view_at a = view a.pass.now
