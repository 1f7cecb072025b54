-- The answers of a timeline's calls. The construction is this project's own.
use Rattle.std.specs.Prelude.{ℕ, Bool, true, false, List, [], ◌∷◌, Option, Some, None, nat_lt, nat_le}
use Rattle.std.specs.Prelude.{if◌then◌else◌}
use Rattle.vq_point_laws.specs.Timeline.{Entry, Timeline, point_at, past_value, first_at_least}
use Rattle.vq_timeline_core.specs.declared.answers.Taken.{Taken}
use Rattle.vq_timeline_core.specs.declared.answers.Taken.TheVariants.{Reused, Fresh}
use Rattle.vq_timeline_core.specs.declared.answers.Found.{Found}
use Rattle.vq_timeline_core.specs.declared.answers.Found.TheVariants as found_as
use Rattle.vq_timeline_core.specs.declared.answers.OpPlace.{OpPlace}
use Rattle.vq_timeline_core.specs.declared.answers.OpPlace.TheVariants as place_as

-- the point that a take gives, with this free list: the one freed last, or the fresh one where none
-- is free
abbrev pub taken_answer : List ℕ → ℕ → Taken
taken_answer [] fresh = Fresh fresh
taken_answer (point ∷ free) fresh = Reused point

-- What is found of a value: past, with how many operations are completed; the least pending
-- operation with a value that is great enough; or nothing yet, with how many are bound.
abbrev pub pending_answer : Timeline → Option Entry → Found
pending_answer t None = found_as.NotYet t.bound
pending_answer t (Some x) = found_as.Pending x.index x.point

abbrev pub found : Timeline → ℕ → Found
found t value =
    if nat_le value (past_value t) then found_as.Past t.completed else pending_answer t
    (first_at_least t value)

-- where an operation that isn't completed stands, by whether it is bound and by its point
abbrev pub open_place : Bool → Option ℕ → OpPlace
open_place bound None = place_as.Without
open_place true (Some point) = place_as.Pending point
open_place false (Some point) = place_as.Taken point

-- where the operation at an index stands
abbrev pub place_of : Timeline → ℕ → OpPlace
place_of t index =
    if nat_lt index t.completed then place_as.Past else open_place (nat_lt index t.bound)
    (point_at t index)
