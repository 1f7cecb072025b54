-- What each call on a shelf leaves of its lists and of its pass. x is the shelf before the call, y after
-- it. This project's own.
use Rattle.std.specs.Prelude.{ℕ, Bool, true, false, not, List, [], ◌≡◌, ◌≢◌, Option, Some, None}
use Rattle.std.specs.List.{slice_get}
use Rattle.vq_model.specs.Plan.{Plan, chain}
use Rattle.vq_ground.specs.Lists.{has}
use Rattle.vq_point_laws.specs.PointWord.{parts}
use Rattle.vq_point_laws.specs.Timeline.{Entry, Timeline, first_pending, after_take, after_bind, after_complete, after_free}
use Rattle.vq_timeline_core.specs.declared.answers.OpPlace.{OpPlace}
use Rattle.vq_timeline_core.specs.declared.answers.OpPlace.TheVariants.{Without, Taken}
use Rattle.vq_timeline_core.specs.declared.answers.Taken.{Taken as TakenPoint}
use Rattle.vq_timeline_core.specs.declared.answers.Taken.TheVariants.{Reused, Fresh}
use Rattle.vq_timeline_core.specs.Answers.{place_of}
use Rattle.vq_board_laws.specs.declared.view.JobState.{JobState}
use Rattle.vq_board_laws.specs.declared.view.JobState.TheVariants.{Waiting, Submitted, Released, Started, Finished}
use Rattle.vq_board_laws.specs.declared.view.View.{View}
use Rattle.vq_board_laws.specs.PointSteps.{sees, makes, assigns, binds, completes}
use Rattle.vq_board_laws.specs.Steps.{looks}
use Rattle.vq_board_laws.specs.Words.{Carries}
use Rattle.vq_board.specs.Firsts.{counted}
use Rattle.vq_timeline_laws.specs.ChainOps.{index_of, job_at, of_host}
use Rattle.vq_timeline_laws.specs.Shelves.{State}
use Rattle.vq_timeline_laws.specs.Waiting.{FindsAllInUse, FindsFree}

-- where an operation stands in the lists
abbrev pub place_in : Plan → State → ℕ → OpPlace
place_in p x e = place_of x.lists (index_of p e)

abbrev pub state : Timeline → View → List ℕ → State
state c v counts = record { lists = c; view = v; counts = counts }

-- Takes: the operation had no point. It has the free one now that was freed last, or a new one where none
-- is free.
abbrev pub HasTaken : Plan → State → State → ℕ → TakenPoint → Type 0
HasTaken p x y e (Reused q) =
    (place_in p x e ≡ Without) × (slice_get x.lists.free 0 ≡ Some q)
    × (y ≡ state (after_take x.lists (index_of p e) q) (assigns x.view q e) x.counts)
HasTaken p x y e (Fresh q) =
    (place_in p x e ≡ Without) × (x.lists.free ≡ []) × (has x.view.owned q ≡ false)
    × (y ≡ state (after_take x.lists (index_of p e) q) (assigns (makes x.view q) q e) x.counts)

-- it has a point, or had one, and nothing is changed
abbrev pub IsTakeRefused : Plan → State → State → ℕ → OpPlace → Type 0
IsTakeRefused p x y e place = (place ≡ place_in p x e) × (place ≢ Without) × (y ≡ x)

-- Binds: an operation of a batch may be bound once that is released, one of a host step once that is
-- started.
abbrev pub may_bind : Bool → JobState → Bool
may_bind of_host Waiting = false
may_bind of_host Submitted = false
may_bind of_host Released = not of_host
may_bind of_host Started = true
may_bind of_host Finished = true

-- The point q was taken for the operation, all of smaller values were bound, and its job was read to be far
-- enough. The operation is bound to that point.
pub record HasBound (p : Plan) (x y : State) (e q : ℕ) : Type 0 where
  pub taken : place_in p x e ≡ Taken q
  pub next : x.lists.bound ≡ index_of p e
  pub seen : JobState
  pub far : may_bind (of_host p e) seen ≡ true
  pub after : y ≡ state (after_bind x.lists) (binds (looks x.view (job_at p e) seen) e q) x.counts

-- Collections: the least pending operation e was found signaled, and is past.
pub record HasCompleted (p : Plan) (t : ℕ) (x y : State) (e : ℕ) : Type 0 where
  pub entry : Entry
  pub first : first_pending x.lists ≡ Some entry
  pub operation : slice_get (chain p t) entry.index ≡ Some e
  pub word : ℕ
  pub carried : Carries word e
  pub signaled : (parts word).signaled ≡ true
  pub after : y
      ≡ state (after_complete x.lists) (completes (sees x.view entry.point word) e)
      (counted p.ops e (counted p.ops e x.counts))

-- the least pending operation, if any is pending, was found unsignaled
abbrev pub FindsUnsignaled : Option Entry → View → View → Type 0
FindsUnsignaled None v w = w ≡ v
FindsUnsignaled (Some entry) v w =
    (n : ℕ) × ((parts n).signaled ≡ false) × (w ≡ sees v entry.point n)

-- Nothing could be completed. Of the waiting points those before q were found in use, and q is free.
pub record HasFreed (x y : State) (q : ℕ) : Type 0 where
  pub looked : View
  pub unsignaled : FindsUnsignaled (first_pending x.lists) x.view looked
  pub freed : FindsFree x.lists.waiting looked y.view q
  pub after : y ≡ state (after_free x.lists q) y.view x.counts

-- the least pending operation was found unsignaled, each waiting point in use, and no list is changed
pub record HasNothing (x y : State) : Type 0 where
  pub looked : View
  pub unsignaled : FindsUnsignaled (first_pending x.lists) x.view looked
  pub in_use : FindsAllInUse x.lists.waiting looked y.view
  pub after : y ≡ state x.lists y.view x.counts
