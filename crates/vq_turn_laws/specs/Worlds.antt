-- What each world of a lawful plan's history keeps, beside what each history keeps. This project's own.
use Rattle.std.specs.Prelude.{ℕ, ◌≡◌, ◌<◌, ◌≤◌, true, List, [], ◌∷◌, ◌++◌, Option, Some}
use Rattle.std.specs.Prelude.{None}
use Rattle.vq_model.specs.declared.plan.Lane.{Lane}
use Rattle.vq_model.specs.declared.plan.Event.{Event}
use Rattle.vq_model.specs.declared.plan.Event.TheVariants.{Signal}
use Rattle.vq_model.specs.Plan.{Plan, chain_of, value, initial}
use Rattle.vq_ground.specs.Lists.{has}
use Rattle.vq_model.specs.Machine.{was_since}
use Rattle.vq_point_laws.specs.Points.{PointState, count_of, jobs_of_lane, opening_points, HistoryFrom}
use Rattle.vq_turns.specs.declared.look.Seen.{Seen}
use Rattle.vq_history_laws.specs.Histories.{points_after}

-- something holds in each world that a history leads to
abbrev pub InEachWorld : Plan → (PointState → Type 0) → Type 0
InEachWorld p P = (events : List Event) → HistoryFrom p (opening_points p) events → P (points_after p events)

-- the payload that a signal sets is greater than the one before
abbrev pub RisesAt : Plan → PointState → ℕ → Option ℕ → Type 0
RisesAt p w e None = Unit {0}
RisesAt p w e (Some t) = w.machine.progress.payload t < value p e

abbrev pub RisesIn : Plan → PointState → Event → Type 0
RisesIn p w (Signal e) = RisesAt p w e (chain_of p e)
RisesIn p w other = Unit {0}

-- Signaled operations are bound, and past ones are signaled.
pub record KeepsMade (w : PointState) : Type 0 where
  pub made_bound : (e : ℕ) → w.machine.progress.made e ≡ true → w.bound e ≡ true
  pub past_made : (e : ℕ) → w.past e ≡ true → w.machine.progress.made e ≡ true

-- Where something was referred to for a job, the jobs before it in its lane are finished.
abbrev pub RefersInTurn : Plan → PointState → Type 0
RefersInTurn p w =
    (i e : ℕ) → 0 < count_of (w.referred i) e → (lane : Lane) (front back : List ℕ) →
    jobs_of_lane p lane ≡ front ++ i ∷ back → (y : ℕ) → has front y ≡ true →
    w.machine.progress.finished y ≡ true

-- What an actor saw for a job, by chains and values that it compared: each past value lies between the payload
-- at the start of the job and the payload now, and the payload had it since the start.
abbrev pub Sees : Plan → PointState → ℕ → List (ℕ × ℕ) → List Seen → Type 0
Sees p w j [] [] = Unit {0}
Sees p w j ((t, v) ∷ qs) (x ∷ xs) =
    (x.wanted ≡ v) × (w.machine.at_start j t ≤ x.past) × (x.past ≤ w.machine.progress.payload t)
    × (was_since p w.machine j t x.past ≡ true) × Sees p w j qs xs
Sees p w j qs xs = ⊥

-- the payload at the start of a job is one that the chain had
abbrev pub KeepsStarts : Plan → PointState → Type 0
KeepsStarts p w =
    (j t : ℕ) → w.machine.progress.started j ≡ true →
    (initial p t ≤ w.machine.at_start j t) × (w.machine.at_start j t ≤ w.machine.progress.payload t)
