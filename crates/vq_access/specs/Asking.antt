-- What the calls of an access on the lists of a chain's points come to: the timeline was asked, and what it answered.
-- This project's own.
use Rattle.std.specs.Prelude.{ℕ, ◌≡◌, ◌⊎◌, true, false, Result, Ok, Err}
use Rattle.std.specs.List.{slice_index_or}
use Rattle.vq_model.specs.declared.plan.Event.{Event}
use Rattle.vq_model.specs.declared.plan.Event.TheVariants.{Take as Takes, Bind as Binds}
use Rattle.vq_model.specs.Plan.{Plan, chain}
use Rattle.vq_timeline_core.specs.declared.answers.OpPlace.{OpPlace}
use Rattle.vq_timeline_core.specs.declared.answers.OpPlace.TheVariants as place_as
use Rattle.vq_timeline_core.specs.declared.answers.Taken.{Taken}
use Rattle.vq_timeline_core.specs.declared.answers.Taken.TheVariants.{Reused, Fresh}
use Rattle.vq_timeline_laws.specs.ChainOps.{job_at}
use Rattle.vq_timeline_laws.specs.Calls.{place_in, HasTaken, IsTakeRefused, HasBound}
use Rattle.vq_timeline.specs.declared.parts.BindFault.{BindFault}
use Rattle.vq_timeline.specs.declared.parts.BindFault.TheVariants.{NotTaken, NotNext, NotReleased}
use Rattle.vq_timeline.specs.declared.timeline.LockedTimeline.{LockedTimeline}
use Rattle.vq_timeline.specs.Answers.{IsBindRefused}
use Rattle.vq_timeline.specs.Named.{Asked, chain_at, state_of}
use Rattle.vq_turns.specs.declared.outcome.Want.{Want}
use Rattle.vq_turns.specs.declared.outcome.Want.TheVariants.{Next, Released, Listed}

-- Where an operation stands

abbrev pub point_in : OpPlace → ℕ
point_in (place_as.Taken q) = q
point_in other = 0

-- the lists were asked where the operation stands, and this is the point that they have taken for it
abbrev pub HasNamed : Plan → LockedTimeline → ℕ → ℕ → Type 0
HasNamed p t e q =
    (place : OpPlace) × (q ≡ point_in place)
    × Asked t (λ x y. (place ≡ place_in p (state_of x) e) × (y ≡ x))

-- Takes

abbrev pub take_of : ℕ → Taken → Event
take_of e (Reused q) = Takes e q false
take_of e (Fresh q) = Takes e q true

-- the lists were asked for a point: they gave this one, or refused it and the operation is in use
abbrev pub HasGiven : Plan → LockedTimeline → ℕ → Result Event Want → Type 0
HasGiven p t e result =
    ((taken : Taken) × (result ≡ Ok (take_of e taken))
    × Asked t (λ x y. HasTaken p (state_of x) (state_of y) e taken))
    ⊎ ((place : OpPlace) × (result ≡ Err (Listed e))
    × Asked t (λ x y. IsTakeRefused p (state_of x) (state_of y) e place))

-- Binds

-- what holds a bind back, by why the lists refused it
abbrev pub want_by : Plan → ℕ → ℕ → BindFault → Want
want_by p t e (NotTaken place) = Listed e
want_by p t e (NotNext n) = Next (slice_index_or (chain p t) n 0)
want_by p t e (NotReleased seen) = Released (job_at p e)

-- the lists were asked to bind it: they bound it to this point, or refused it for this want
abbrev pub HasTied : Plan → LockedTimeline → ℕ → Result Event Want → Type 0
HasTied p t e result =
    ((q : ℕ) × (result ≡ Ok (Binds e q)) × Asked t (λ x y. HasBound p (state_of x) (state_of y) e q))
    ⊎ ((fault : BindFault) × (result ≡ Err (want_by p (chain_at t) e fault))
    × Asked t (λ x y. IsBindRefused p (state_of x) (state_of y) e fault))
