-- What the calls on a shelf answer. x is the shelf before the call, y after it. This project's own.
use Rattle.std.specs.Prelude.{ℕ, false, ◌≡◌, ◌≢◌, ◌<◌}
use Rattle.vq_model.specs.Plan.{Plan}
use Rattle.vq_timeline_core.specs.declared.answers.OpPlace.TheVariants.{Taken}
use Rattle.vq_timeline_core.specs.declared.answers.Taken.{Taken as TakenPoint}
use Rattle.vq_timeline_core.specs.declared.answers.Taken.TheVariants.{Reused, Fresh}
use Rattle.vq_board_laws.specs.Steps.{looks}
use Rattle.vq_timeline_laws.specs.ChainOps.{index_of, job_at, of_host}
use Rattle.vq_timeline_laws.specs.Shelves.{State}
use Rattle.vq_timeline_laws.specs.Calls.{place_in, state, may_bind, HasCompleted, HasFreed, HasNothing}
use Rattle.vq_timeline.specs.declared.parts.BindFault.{BindFault}
use Rattle.vq_timeline.specs.declared.parts.BindFault.TheVariants.{NotTaken, NotNext, NotReleased}
use Rattle.vq_timeline.specs.declared.parts.Collected.{Collected}
use Rattle.vq_timeline.specs.declared.parts.Collected.TheVariants.{Completed, Freed, Nothing}

-- the point that was taken
abbrev pub taken_point : TakenPoint → ℕ
taken_point (Reused q) = q
taken_point (Fresh q) = q

-- A bind is refused by the first cause in this order, and no list is changed.
abbrev pub IsBindRefused : Plan → State → State → ℕ → BindFault → Type 0
IsBindRefused p x y e (NotTaken place) =
    (place ≡ place_in p x e) × ((q : ℕ) → place ≢ Taken q) × (y ≡ x)
IsBindRefused p x y e (NotNext next) =
    ((q : ℕ) × (place_in p x e ≡ Taken q)) × (next ≡ x.lists.bound) × (next < index_of p e) × (y ≡ x)
IsBindRefused p x y e (NotReleased seen) =
    ((q : ℕ) × (place_in p x e ≡ Taken q)) × (x.lists.bound ≡ index_of p e)
    × (may_bind (of_host p e) seen ≡ false)
    × (y ≡ state x.lists (looks x.view (job_at p e) seen) x.counts)

abbrev pub Collects : Plan → ℕ → State → State → Collected → Type 0
Collects p t x y (Completed e) = HasCompleted p t x y e
Collects p t x y (Freed q) = HasFreed x y q
Collects p t x y Nothing = HasNothing x y
