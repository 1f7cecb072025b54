-- The tables before the first event. This project's own.
use Rattle.std.specs.Prelude.{ℕ, Bool, false, List, [], length, map, sum, filter, ◌≡◌, ◌<◌, Option, None}
use Rattle.std.specs.List.{slice_index_or, range_with_len}
use Rattle.vq_model.specs.declared.plan.Answer.{Answer}
use Rattle.vq_model.specs.Plan.{Plan, of_job, same_lane}
use Rattle.vq_tables.specs.declared.lanes.LaneState.{LaneState}
use Rattle.vq_tables.specs.Lanes.{lane_named, no_lane}

-- nothing is marked, and nothing is noted
abbrev pub unmarked : ℕ → Bool
unmarked j = false

abbrev pub nothing : ℕ → List ℕ
nothing j = []

-- nothing is answered, and nothing was started
abbrev pub no_answers : ℕ → Option Answer
no_answers j = None

abbrev pub no_payloads : ℕ → ℕ → ℕ
no_payloads j t = 0

-- how many needs all jobs have
abbrev pub needs_of : Plan → ℕ
needs_of p = sum (map (λ x. length x.needs) p.jobs)

-- the jobs of a lane, by its number, among the first ones
abbrev pub are_in_lane : Plan → ℕ → ℕ → List ℕ
are_in_lane p lane n = filter (λ j. of_job (λ x. same_lane (lane_named lane) x.lane) false p j) (range_with_len 0 n)

-- so many of the first jobs are sorted into their lanes
pub record HasLanesUpTo (p : Plan) (n : ℕ) (xs : List LaneState) : Type 0 where
  pub jobs : (k : ℕ) → k < length xs → (slice_index_or xs k no_lane).jobs ≡ are_in_lane p k n
  pub none_released : (k : ℕ) → (slice_index_or xs k no_lane).released ≡ 0
  pub none_finished : (k : ℕ) → (slice_index_or xs k no_lane).finished ≡ 0
  pub none_held : (k : ℕ) → (slice_index_or xs k no_lane).held ≡ 0
