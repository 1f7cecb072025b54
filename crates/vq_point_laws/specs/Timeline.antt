-- The lists of one timeline. The construction is this project's own.
use Rattle.std.specs.Prelude.{ℕ, List, map, ◌∷◌, ◌+◌, ◌++◌, ◌≡◌, ◌==◌, false, [], ◌<◌}
use Rattle.std.specs.Prelude.{◌≤◌, ◌-◌, length, find, take}
use Rattle.std.specs.Prelude.{drop, Option, Some, None, if◌then◌else◌, Bool, not, filter, nat_le, true, replicate}
use Rattle.std.specs.Prelude.{slice_range, slice_set}
use Rattle.std.specs.List.{slice_index_or, list_any, range_with_len}
use Rattle.vq_ground.specs.Lists.{AreRisingFrom}

-- an operation of the chain, by its index, with its point
pub record Entry : Type 0 where
  pub index : ℕ
  pub point : ℕ

-- The lists of a timeline, as its calls see them.
pub record Timeline : Type 0 where
  pub initial : ℕ
  -- the values of the chain's operations
  pub values : List ℕ
  -- the point of each operation, from its taking on
  pub points : List (Option ℕ)
  -- how many operations are bound, and how many are completed
  pub bound : ℕ
  pub completed : ℕ
  -- the points of completed operations that wait to be freed, in the order of completion
  pub waiting : List ℕ
  -- the free points, the one freed last first
  pub free : List ℕ
  -- how many points the timeline made
  pub made : ℕ

abbrev pub indexes : List Entry → List ℕ
indexes entries = map (λ x. x.index) entries

abbrev pub points_of : List Entry → List ℕ
points_of entries = map (λ x. x.point) entries

-- the operations that have a point, in this part of the chain that begins at an index
abbrev pub entries_from : ℕ → List (Option ℕ) → List Entry
entries_from index [] = []
entries_from index (None ∷ points) = entries_from (index + 1) points
entries_from index (Some point ∷ points) =
    record { index = index; point = point } ∷ entries_from (index + 1) points

-- the bound operations that aren't completed, in order, each with its point
abbrev pub pending : Timeline → List Entry
pending t = entries_from t.completed (slice_range t.points t.completed t.bound)

-- the operations that have a point and aren't bound
abbrev pub taken : Timeline → List Entry
taken t = entries_from t.bound (drop t.bound t.points)

-- the point of an operation, if it has or had one
abbrev pub point_at : Timeline → ℕ → Option ℕ
point_at t index = slice_index_or t.points index None

-- The value of the n-th operation, or the initial value where n is 0.
abbrev pub value_before : Timeline → ℕ → ℕ
value_before t n = slice_index_or (t.initial ∷ t.values) n 0

-- the past value is that of the last completed operation, or the initial value
abbrev pub past_value : Timeline → ℕ
past_value t = value_before t t.completed

-- the pending value is that of the greatest bound operation, or the initial value
abbrev pub pending_value : Timeline → ℕ
pending_value t = value_before t t.bound

-- all points, wherever they stand
abbrev pub all_points : Timeline → List ℕ
all_points t = t.free ++ points_of (taken t) ++ points_of (pending t) ++ t.waiting

-- a number that isn't in a list, and one that is
abbrev pub IsAbsent : ℕ → List ℕ → Type 0
IsAbsent x xs = list_any (λ y. y == x) xs ≡ false

abbrev pub IsPresent : ℕ → List ℕ → Type 0
IsPresent x xs = list_any (λ y. y == x) xs ≡ true

abbrev pub AreDistinct : List ℕ → Type 0
AreDistinct [] = Unit {0}
AreDistinct (x ∷ xs) = IsAbsent x xs × AreDistinct xs

abbrev pub carries : Option ℕ → ℕ → Bool
carries None point = false
carries (Some carried) point = carried == point

-- Of the operations after the first n, the one that carried a point last: its number, counted from
-- 1, or `found` where none of them did.
abbrev pub last_from : ℕ → ℕ → ℕ → List (Option ℕ) → ℕ
last_from n found point [] = found
last_from n found point (x ∷ xs) =
    last_from (n + 1) (if carries x point then n + 1 else found) point xs

-- the completed operation that carried a point last: its number, counted from 1, or 0
abbrev pub last_carrier : Timeline → ℕ → ℕ
last_carrier t point = last_from 0 0 point (take t.completed t.points)

-- The lock law of a timeline.
pub record KeepsLists (t : Timeline) : Type 0 where
  -- the values rise above the initial one
  pub rising : AreRisingFrom t.initial t.values
  -- each operation has a place for its point
  pub one_each : length t.points ≡ length t.values
  -- completed operations are bound, and bound ones exist
  pub in_order : t.completed ≤ t.bound
  pub within : t.bound ≤ length t.values
  -- each bound operation has had its point, so also each completed one
  pub had : (k : ℕ) → k < t.bound → ¬ (point_at t k ≡ None)
  -- the pending list is the operations between the two numbers, in order, each with its point
  pub between : indexes (pending t) ≡ range_with_len t.completed (t.bound - t.completed)
  -- each waiting point was carried by a completed operation, and they stand in the order of
  -- completion
  pub completion : AreRisingFrom 0 (map (last_carrier t) t.waiting)
  -- the points are distinct and together all that the timeline made
  pub distinct : AreDistinct (all_points t)
  pub all : length (all_points t) ≡ t.made
  -- no more points are made than there are operations
  pub few : t.made ≤ length t.values

-- a timeline with these values and no points
abbrev pub new_timeline : ℕ → List ℕ → Timeline
new_timeline initial values =
    record {
      initial = initial;
      values = values;
      points = replicate (length values) None;
      bound = 0;
      completed = 0;
      waiting = [];
      free = [];
      made = 0;
    }

-- a point may be taken for an operation that has none, with a fresh point that isn't one of the
-- timeline
pub record MayTake (t : Timeline) (index fresh : ℕ) : Type 0 where
  pub exists : index < length t.values
  pub without : point_at t index ≡ None
  pub unknown : IsAbsent fresh (all_points t)

-- what a take leaves, with this free list: the operation has the point freed last, or the fresh one
-- where none is free
abbrev pub take_from : Timeline → ℕ → ℕ → List ℕ → Timeline
take_from t index fresh [] =
    record t { points = slice_set t.points index (Some fresh); made = t.made + 1 }
take_from t index fresh (point ∷ free) =
    record t { points = slice_set t.points index (Some point); free = free }

abbrev pub after_take : Timeline → ℕ → ℕ → Timeline
after_take t index fresh = take_from t index fresh t.free

-- the points that a take makes, with this free list
abbrev pub fresh_points : List ℕ → ℕ → List ℕ
fresh_points [] fresh = fresh ∷ []
fresh_points (point ∷ free) fresh = []

-- the least index that isn't bound
abbrev pub next_unbound : Timeline → ℕ
next_unbound t = t.bound

-- a point may be bound to the operation for which it is taken
pub record MayBind (t : Timeline) (index point : ℕ) : Type 0 where
  pub unbound : t.bound ≤ index
  pub taken : point_at t index ≡ Some point

-- whether no operation of smaller value is left to bind; else a bind is refused, and nothing changes
abbrev pub is_next : Timeline → ℕ → Bool
is_next t index = index == next_unbound t

-- what a bind leaves: one more operation is bound, with the point that it has
abbrev pub after_bind : Timeline → Timeline
after_bind t = record t { bound = t.bound + 1 }

-- the first pending operation whose value is at least this one
abbrev pub first_at_least : Timeline → ℕ → Option Entry
first_at_least t value =
    find (λ x. nat_le value (slice_index_or t.values x.index 0)) (pending t)

-- the least pending operation with its point
abbrev pub first_of : List Entry → Option Entry
first_of [] = None
first_of (x ∷ xs) = Some x

abbrev pub first_pending : Timeline → Option Entry
first_pending t = first_of (pending t)

-- what completing this operation leaves, the least pending one: its point waits to be freed
abbrev pub complete_from : Timeline → Option Entry → Timeline
complete_from t None = t
complete_from t (Some x) =
    record t { completed = t.completed + 1; waiting = t.waiting ++ x.point ∷ [] }

abbrev pub after_complete : Timeline → Timeline
after_complete t = complete_from t (first_pending t)

-- a point may be freed that waits for it
abbrev pub MayFree : Timeline → ℕ → Type 0
MayFree t point = IsPresent point t.waiting

-- what freeing a point leaves
abbrev pub after_free : Timeline → ℕ → Timeline
after_free t point =
    record t { waiting = filter (λ p. not (p == point)) t.waiting; free = point ∷ t.free }
