-- A live timeline that is fed with the calls of a timeline whose values are known from the start.
use Rattle.std.specs.Prelude.{ℕ, List, [], ◌∷◌, ◌++◌, map, Option, Some, None, ◌≡◌, ◌<◌}
use Rattle.std.specs.List.{slice_index_or}
use Rattle.vq_point_laws.specs.Timeline.{Timeline, Entry, MayTake, MayBind, MayFree, after_take, after_bind, after_complete}
use Rattle.vq_point_laws.specs.Timeline.{after_free, pending, first_pending, past_value}
use Rattle.vq_live.specs.declared.answers.Given.{Given}
use Rattle.vq_live.specs.Live.{Live, pending as live_pending}
use Rattle.vq_live.specs.Calls.{point_from}
use Rattle.vq_live.specs.Runs.{Event, taking, installing, completing, referring, returning}

-- A call of a timeline of known values. Fresh points are numbered in order.
pub data Call : Type 0 where
  takes : ℕ → Call
  binds : ℕ → Call
  completes : Call
  frees : ℕ → Call

abbrev pub MayCall : Timeline → Call → Type 0
MayCall t (takes index) = MayTake t index t.made
MayCall t (binds point) = MayBind t t.bound point
MayCall t completes = t.completed < t.bound
MayCall t (frees point) = MayFree t point

abbrev pub after_call : Timeline → Call → Timeline
after_call t (takes index) = after_take t index t.made
after_call t (binds point) = after_bind t
after_call t completes = after_complete t
after_call t (frees point) = after_free t point

abbrev pub AreCalls : Timeline → List Call → Type 0
AreCalls t [] = Unit {0}
AreCalls t (call ∷ calls) = MayCall t call × AreCalls (after_call t call) calls

abbrev pub after_calls : Timeline → List Call → Timeline
after_calls t [] = t
after_calls t (call ∷ calls) = after_calls (after_call t call) calls

-- an operation with its value in the place of its index
abbrev pub value_at : Timeline → ℕ → ℕ
value_at t index = slice_index_or t.values index 0

abbrev pub given_of : List ℕ → Entry → Given
given_of values x = record { value = slice_index_or values x.index 0; point = x.point }

-- What a live timeline is told in the place of a call. A point that waits to be freed is one that is
-- held: it is referred to just before its operation is completed.
abbrev pub completing_of : List ℕ → Option Entry → List Event
completing_of values None = []
completing_of values (Some x) = referring x.point ∷ completing (given_of values x) ∷ []

abbrev pub events_of : Timeline → Call → List Event
events_of t (takes index) = taking (record { value = value_at t index; point = point_from t.free t.made }) ∷ []
events_of t (binds point) = installing (record { value = value_at t t.bound; point = point }) ∷ []
events_of t completes = completing_of t.values (first_pending t)
events_of t (frees point) = returning point ∷ []

abbrev pub fed : Timeline → List Call → List Event
fed t [] = []
fed t (call ∷ calls) = events_of t call ++ fed (after_call t call) calls

-- The live timeline shows the other's payload, pending operations and free points.
pub record Shows (t : Timeline) (live : Live) : Type 0 where
  pub payload : live.payload ≡ past_value t
  pub shown : live_pending live ≡ map (given_of t.values) (pending t)
  pub free_points : live.free ≡ t.free
