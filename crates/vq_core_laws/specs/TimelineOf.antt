-- What the world says of the lists of one timeline. This project's own.
use Rattle.std.specs.Prelude.{ℕ, Bool, map, Some, ◌≡◌, ◌&&◌, ◌==◌, false}
use Rattle.std.specs.List.{slice_get}
use Rattle.std.specs.Option.{option_map_or}
use Rattle.vq_model.specs.Plan.{Plan, chain, initial, value, chain_of}
use Rattle.vq_ground.specs.Lists.{has}
use Rattle.vq_point_laws.specs.Points.{PointState}
use Rattle.vq_point_laws.specs.Timeline.{Timeline, point_at}
use Rattle.vq_core_laws.specs.Firsts.{AreFirst}

-- whether a point waits to be freed and carries an operation of a chain
abbrev pub waits_on : Plan → PointState → ℕ → ℕ → Bool
waits_on p w t q =
    w.waiting q
    && option_map_or (λ e. option_map_or (λ s. s == t) (chain_of p e) false) (w.carried q) false

-- The lists are those of a chain: its values, the point of each of its operations, how many are
-- bound and how many are past, the points that wait, and those that are free. With what a timeline
-- keeps (`KeepsLists`: waiting points stand in the order of completion, and all points are counted)
-- no other lists are.
pub record IsTimelineOf (p : Plan) (w : PointState) (t : ℕ) (l : Timeline) : Type 0 where
  pub initial_value : l.initial ≡ initial p t
  pub values : l.values ≡ map (value p) (chain p t)
  pub points : (i e : ℕ) → slice_get (chain p t) i ≡ Some e → point_at l i ≡ w.point_of e
  pub bound : AreFirst w.bound (chain p t) l.bound
  pub completed : AreFirst w.past (chain p t) l.completed
  pub waiting : (q : ℕ) → has l.waiting q ≡ waits_on p w t q
  pub free : l.free ≡ w.free t
