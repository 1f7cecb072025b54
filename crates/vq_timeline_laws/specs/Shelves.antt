-- The lists of a timeline beside the view of the pass that makes their steps: what is true of both
-- whenever the timeline's lock is free. This project's own.
use Rattle.std.specs.Prelude.{ℕ, true, List, IsPermutation, Some}
use Rattle.std.specs.Prelude.{◌≡◌, ◌<◌, ◌≤◌, ◌+◌, ◌⊎◌, length, map, take, reverse}
use Rattle.std.specs.List.{slice_get}
use Rattle.vq_model.specs.Checks.{IsLawful}
use Rattle.vq_model.specs.LoweredPlans.{IsPlan}
use Rattle.vq_model.specs.Plan.{Plan, chain, initial, value}
use Rattle.vq_ground.specs.Lists.{has}
use Rattle.vq_point_laws.specs.Timeline.{Timeline, KeepsLists, point_at, all_points, last_carrier}
use Rattle.vq_board_laws.specs.declared.view.Reference.{Reference}
use Rattle.vq_board_laws.specs.declared.view.Role.TheVariants.{Shelf}
use Rattle.vq_board_laws.specs.declared.view.View.{View}
use Rattle.vq_board_laws.specs.Points.{Lists, reference}
use Rattle.vq_board_laws.specs.Roles.{role_number}

-- The lists, the view, and of each chain how many of the first operations the pass showed made.
pub record State : Type 0 where
  pub lists : Timeline
  pub view : View
  pub counts : List ℕ

-- the operation at an index has this point: it was taken for it, and not freed since
abbrev pub HasPoint : Timeline → ℕ → ℕ → Type 0
HasPoint c i q =
    (point_at c i ≡ Some q)
    × ((c.completed ≤ i) ⊎ ((has c.waiting q ≡ true) × (last_carrier c q ≡ i + 1)))

-- The lists are those of the pass: the same operations are bound, and past, the pass owns the points of
-- the lists, and it knows each operation that has a point carried by it, and no other.
pub record AreOfPass (p : Plan) (t : ℕ) (c : Timeline) (role : ℕ) (owned : List ℕ)
    (carrying : List Reference) (bound past : List ℕ) : Type 0 where
  pub exists : t < length p.chains
  pub role_is : role ≡ role_number p (Shelf t)
  pub first : c.initial ≡ initial p t
  pub their_values : c.values ≡ map (value p) (chain p t)
  pub bound_are : bound ≡ reverse (take c.bound (chain p t))
  pub past_are : past ≡ reverse (take c.completed (chain p t))
  pub points : IsPermutation owned (all_points c)
  pub below : (q : ℕ) → has owned q ≡ true → q < length p.ops
  pub carrying_only : (q e : ℕ) → Lists carrying (reference q e) →
      (i : ℕ) × (slice_get (chain p t) i ≡ Some e) × HasPoint c i q
  pub carrying_all : (q i e : ℕ) → slice_get (chain p t) i ≡ Some e → HasPoint c i q →
      Lists carrying (reference q e)

abbrev pub AreListsOf : Plan → ℕ → Timeline → View → Type 0
AreListsOf p t c v = AreOfPass p t c v.role v.owned v.carrying v.bound v.past

-- what is true of a shelf of this chain
pub record IsKept (p : Plan) (t : ℕ) (c : Timeline) (v : View) : Type 0 where
  pub plan : IsPlan p
  pub lawful : IsLawful p
  pub lists : AreListsOf p t c v
  -- the law of the lists
  pub kept : KeepsLists c
