-- Vector clocks. A clock has a number for each lane. As the jobs of a lane run one after another,
-- those that happen before a job are the first ones of each lane, and the number says where they end.
-- Vulkan 1.3, "Implicit Synchronization Guarantees" (submission order).
use Rattle.std.specs.Prelude.{ℕ, ◌++◌, ◌∷◌, ◌≡◌, ◌<◌, ◌≤◌, ◌+◌, ◌==◌, true, List}
use Rattle.std.specs.Prelude.{[], length, map, take, drop, max, if◌then◌else◌}
use Rattle.std.specs.Prelude.{Option, Some, ◌⊎◌}
use Rattle.std.specs.List.{filter_map, slice_index_or, position_or_len}
use Rattle.vq_model.specs.Plan.{Plan, job_of, commands_of}
use Rattle.vq_ground.specs.Lists.{has}
use Rattle.vq_model.specs.Edges.{Stage, AtEnd}
use Rattle.vq_model.specs.HappensBefore.{HappensBefore, HappensBeforeAt, comes_earlier}
use Rattle.vq_model.specs.Sure.{IsSure, IsSureAt}
use Rattle.vq_model.specs.SlowRun.{slow_order, left_over}
use Rattle.vq_model.specs.Lanes.{lane_at}
use Rattle.vq_model.specs.LoweredPlans.{IsPlan}

-- A row says of each thing of a job whether it is among some: exactly where its number is below
-- that of the job's lane.
pub record Covers (lane : ℕ → ℕ) (of : ℕ → Option ℕ) (row : ℕ → ℕ) (S : ℕ → Type 0) : Type 0 where
  pub below : (x i : ℕ) → of x ≡ Some i → S x → x < row (lane i)
  pub covered : (x i : ℕ) → of x ≡ Some i → x < row (lane i) → S x

-- all numbers of a list are below a bound
abbrev pub AllBelow : ℕ → List ℕ → Type 0
AllBelow n xs = (x : ℕ) → has xs x ≡ true → x < n

-- a number of a row
abbrev pub in_row : List ℕ → ℕ → ℕ
in_row row l = slice_index_or row l 0

-- the things of which clocks speak are jobs, each its own
abbrev pub itself : ℕ → Option ℕ
itself i = Some i

-- the jobs that happen before a place
abbrev pub IsClock : Plan → ℕ → Stage → (ℕ → ℕ) → Type 0
IsClock p j k row = Covers (lane_at p) itself row (λ i. HappensBeforeAt p i j k)

-- the operations that are sure for a place
abbrev pub IsSureClock : Plan → ℕ → Stage → (ℕ → ℕ) → Type 0
IsSureClock p j k row = Covers (lane_at p) (job_of p) row (λ e. IsSureAt p e j k)

-- The jobs that come before a job through one of these edges.
pub record PassesOne (p : Plan) (j : ℕ) (edges : List ℕ) (i : ℕ) : Type 0 where
  pub through : ℕ
  pub listed : has edges through ≡ true
  pub earlier : comes_earlier p through j ≡ true
  pub comes : HappensBefore p i through ⊎ (i ≡ through)

-- The operations that are sure for a job through one of these jobs, which are finished first.
pub record SureByJob (p : Plan) (firsts : List ℕ) (e : ℕ) : Type 0 where
  pub through : ℕ
  pub listed : has firsts through ≡ true
  pub comes : IsSure p e through ⊎ (job_of p e ≡ Some through)

-- The operations that are sure for a job through one of these operations, for which it waits.
pub record SureByOp (p : Plan) (j : ℕ) (ops : List ℕ) (e : ℕ) : Type 0 where
  pub op : ℕ
  pub listed : has ops op ≡ true
  pub through : ℕ
  pub of_job : job_of p op ≡ Some through
  pub earlier : comes_earlier p through j ≡ true
  pub comes : IsSure p e through ⊎ ((job_of p e ≡ Some through) × (e ≤ op))

-- by one of these jobs or by one of these operations
abbrev pub IsSureBy : Plan → ℕ → List ℕ → List ℕ → ℕ → Type 0
IsSureBy p j firsts ops e = SureByJob p firsts e ⊎ SureByOp p j ops e

-- With one more edge to a job, or one more job or operation to wait for, a row still says what is
-- before the job.

abbrev pub AddsEdge : Plan → ℕ → ℕ → List ℕ → List ℕ → Type 0
AddsEdge p j edge old new =
    (edges : List ℕ) → Covers (lane_at p) itself (in_row old) (PassesOne p j edges) →
    Covers (lane_at p) itself (in_row new) (PassesOne p j (edges ++ edge ∷ []))

-- the edge to the job of an operation
abbrev pub AddsEdgeOf : Plan → ℕ → ℕ → List ℕ → List ℕ → Type 0
AddsEdgeOf p j op old new =
    (edges ops : List ℕ) →
    Covers (lane_at p) itself (in_row old) (PassesOne p j (edges ++ filter_map (job_of p) ops)) →
    Covers (lane_at p) itself (in_row new) (PassesOne p j (edges ++ filter_map (job_of p) (ops ++ op ∷ [])))

abbrev pub AddsJob : Plan → ℕ → List ℕ → List ℕ → Type 0
AddsJob p first old new =
    (firsts : List ℕ) → Covers (lane_at p) (job_of p) (in_row old) (SureByJob p firsts) →
    Covers (lane_at p) (job_of p) (in_row new) (SureByJob p (firsts ++ first ∷ []))

abbrev pub AddsOp : Plan → ℕ → ℕ → List ℕ → List ℕ → Type 0
AddsOp p j op old new =
    (firsts ops : List ℕ) → Covers (lane_at p) (job_of p) (in_row old) (IsSureBy p j firsts ops) →
    Covers (lane_at p) (job_of p) (in_row new) (IsSureBy p j firsts (ops ++ op ∷ []))

-- a bound on the operations of a job
pub record EndsOps (p : Plan) (j bound : ℕ) : Type 0 where
  pub own : (e : ℕ) → job_of p e ≡ Some j → e < bound
  pub above : (e i : ℕ) → job_of p e ≡ Some i → j < i → bound ≤ e

-- Rows

-- how many lanes there are: the host's lane, and those of the queues
abbrev pub lanes : Plan → ℕ
lanes p = length p.script.queues + 1

-- each number of a row is raised to that of another one, and that of a lane to a bound too
pub record Joins (old from : List ℕ) (lane bound : ℕ) (new : List ℕ) : Type 0 where
  pub width : length new ≡ length old
  pub raised : (l : ℕ) → in_row new l
      ≡ max (max (in_row old l) (in_row from l)) (if lane == l then bound else 0)

-- a number of a row is raised to a bound
pub record Raises (old : List ℕ) (lane bound : ℕ) (new : List ℕ) : Type 0 where
  pub width : length new ≡ length old
  pub raised : (l : ℕ) → in_row new l ≡ max (in_row old l) (if lane == l then bound else 0)

-- number l of row n of a table
abbrev pub row_at : List (List ℕ) → ℕ → ℕ → ℕ
row_at rows n l = in_row (slice_index_or rows n []) l

-- where a job stands in the slow run
abbrev pub position : Plan → ℕ → ℕ
position p j = position_or_len (λ k. k == j) (slow_order p)

-- the row of a job, in a table in the order of the slow run
abbrev pub row_of : Plan → List (List ℕ) → ℕ → ℕ → ℕ
row_of p rows j = row_at rows (position p j)

-- so many rows, as wide as there are lanes: what something says of the first jobs of the slow run
pub record HasRows (p : Plan) (Says : ℕ → (ℕ → ℕ) → Type 0)
    (rows : List (List ℕ)) (n : ℕ) : Type 0 where
  pub count : length rows ≡ n
  pub width : (q : ℕ) → q < n → length (slice_index_or rows q []) ≡ lanes p
  pub each : (j : ℕ) → position p j < n → Says j (row_of p rows j)

-- the clocks of the first jobs of the slow run
abbrev pub HasClocks : Plan → List (List ℕ) → ℕ → Type 0
HasClocks p rows n = HasRows p (λ j. IsClock p j AtEnd) rows n

abbrev pub HasSureClocks : Plan → List (List ℕ) → ℕ → Type 0
HasSureClocks p rows n = HasRows p (λ j. IsSureClock p j AtEnd) rows n

-- Both clocks of a job stand in one row: first the numbers that say what is before the job, then those
-- that say what is sure for it.

-- how many numbers such a row has
abbrev pub both : Plan → ℕ
both p = lanes p + lanes p

abbrev pub before_half : Plan → List ℕ → List ℕ
before_half p row = take (lanes p) row

abbrev pub sure_half : Plan → List ℕ → List ℕ
sure_half p row = drop (lanes p) row

abbrev pub before_halves : Plan → List (List ℕ) → List (List ℕ)
before_halves p rows = map (before_half p) rows

abbrev pub sure_halves : Plan → List (List ℕ) → List (List ℕ)
sure_halves p rows = map (sure_half p) rows

-- both clocks of the first jobs of the slow run
pub record HasBoth (p : Plan) (rows : List (List ℕ)) (n : ℕ) : Type 0 where
  pub before : HasClocks p (before_halves p rows) n
  pub sure : HasSureClocks p (sure_halves p rows) n

-- The halves of a row are raised to those of another one. In the lane of a job each is raised to a bound too:
-- the first to just above the job.
pub record JoinsBoth (p : Plan) (old from : List ℕ) (job bound : ℕ) (new : List ℕ) : Type 0 where
  pub before : Joins (before_half p old) (before_half p from) (lane_at p job) (job + 1) (before_half p new)
  pub sure : Joins (sure_half p old) (sure_half p from) (lane_at p job) bound (sure_half p new)
  pub width : length new ≡ length old

-- A job was added to a row: each number is as great as that of the job's row, and that of its lane above the job.
pub record HasAdded (p : Plan) (rows : List (List ℕ)) (row : List ℕ) (i : ℕ) : Type 0 where
  pub above : (l : ℕ) → in_row (slice_index_or rows (position p i) []) l ≤ in_row row l
  pub own : i < in_row row (lane_at p i)

-- the places of all jobs in the slow run
pub record HasPositions (p : Plan) (positions : List ℕ) : Type 0 where
  pub count : length positions ≡ length p.jobs
  pub each : (j : ℕ) → j < length p.jobs → slice_index_or positions j 0 ≡ position p j

-- Plans of which the slow run leaves no job

pub record IsComplete (p : Plan) : Type 0 where
  pub plan : IsPlan p
  pub reachable : left_over p ≡ []

-- a row of a job is made, where those of the jobs before it in the slow run stand, and maybe more
pub record MakesRow (p : Plan) (Says : ℕ → (ℕ → ℕ) → Type 0)
    (rows : List (List ℕ)) (j : ℕ) : Type 0 where
  pub complete : IsComplete p
  pub exists : j < length p.jobs
  pub made : ℕ
  pub enough : position p j ≤ made
  pub earlier : HasRows p Says rows made

abbrev pub MakesClock : Plan → List (List ℕ) → ℕ → Type 0
MakesClock p rows j = MakesRow p (λ i. IsClock p i AtEnd) rows j

-- both clocks of a job are made
pub record MakesBoth (p : Plan) (rows : List (List ℕ)) (j : ℕ) : Type 0 where
  pub complete : IsComplete p
  pub exists : j < length p.jobs
  pub made : ℕ
  pub enough : position p j ≤ made
  pub earlier : HasBoth p rows made

-- what is kept beside such a plan: its slow run, and where each job stands in it
pub record KeepsRun (p : Plan) (order positions : List ℕ) : Type 0 where
  pub complete : IsComplete p
  pub in_order : order ≡ slow_order p
  pub places : HasPositions p positions

-- a command is of a job
abbrev pub IsOfSomeJob : Plan → ℕ → Type 0
IsOfSomeJob p c = (j : ℕ) × (has (commands_of p j) c ≡ true)
