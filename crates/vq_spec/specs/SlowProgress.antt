-- What a slow run keeps on its way, beside the jobs that it has done. This project's own.
use Rattle.std.specs.Prelude.{ℕ, ◌≡◌, ◌<◌, ◌≤◌, ◌+◌, Bool, true, false, List, length, get_or, min, nat_le}
use Rattle.std.specs.Prelude.{Option, Some, None}
use Rattle.std.specs.Prelude.{◌⊎◌, ◌||◌}
use Rattle.vq_model.specs.Plan.{Plan, chain, initial, value}
use Rattle.vq_ground.specs.Lists.{has}
use Rattle.vq_model.specs.Edges.{must_finish}
use Rattle.vq_model.specs.SlowRun.{payload_after, is_of}
use Rattle.vq_model.specs.Lanes.{lane_at}
use Rattle.vq_model.specs.LoweredPlans.{IsPlan}
use Rattle.vq_spec.specs.declared.progress.SlowState.{SlowState}

-- what must be finished before a done job is done
abbrev pub IsClosed : Plan → List ℕ → Type 0
IsClosed p done = (i j : ℕ) → has done j ≡ true → has (must_finish p j) i ≡ true → has done i ≡ true

-- for each job a mark that says whether it is done
pub record AreMarks (p : Plan) (done : List ℕ) (marks : List Bool) : Type 0 where
  pub count : length marks ≡ length p.jobs
  pub each : (j : ℕ) → j < length p.jobs → get_or marks j false ≡ has done j

-- whether a job is marked
abbrev pub is_marked : List Bool → ℕ → Bool
is_marked marks j = get_or marks j false

-- the payload that stands in a list for a chain
abbrev pub payload_in : List ℕ → ℕ → ℕ
payload_in payloads t = get_or payloads t 0

-- the payload of each chain
pub record ArePayloads (p : Plan) (done payloads : List ℕ) : Type 0 where
  pub count : length payloads ≡ length p.script.semaphores
  pub each : (t : ℕ) → t < length p.script.semaphores →
      get_or payloads t 0 ≡ payload_after p done t

-- the first job of a lane that isn't done, or the number of jobs
pub record IsHead (p : Plan) (done : List ℕ) (lane head : ℕ) : Type 0 where
  pub within : head ≤ length p.jobs
  pub before : (i : ℕ) → i < head → lane_at p i ≡ lane → has done i ≡ true
  pub in_lane : head < length p.jobs → lane_at p head ≡ lane
  pub waits : head < length p.jobs → has done head ≡ false

pub record AreHeads (p : Plan) (done heads : List ℕ) : Type 0 where
  pub count : length heads ≡ length p.script.queues + 1
  pub each : (l : ℕ) → l ≤ length p.script.queues → IsHead p done l (get_or heads l 0)

-- the lower of a number that may be there and another one
abbrev pub lower : Option ℕ → ℕ → ℕ
lower None b = b
lower (Some a) b = min a b

-- whether a number that may be there is no greater than another one
abbrev pub is_passed : Option ℕ → ℕ → Bool
is_passed None b = false
is_passed (Some a) b = nat_le a b

-- the least of some numbers below a bound that pass a test, or none where there is none
abbrev pub IsLeastOf : (ℕ → Bool) → ℕ → List ℕ → Option ℕ → Type 0
IsLeastOf test bound heads None = (h : ℕ) → has heads h ≡ true → h < bound → test h ≡ false
IsLeastOf test bound heads (Some j) =
    (j < bound) × (test j ≡ true)
    × ((h : ℕ) → has heads h ≡ true → h < bound → test h ≡ true → j ≤ h)

-- Payloads while the signals of a job are made

-- the greatest of the initial value and of the values of these operations
pub record IsPayloadOf (p : Plan) (on : ℕ → Bool) (t n : ℕ) : Type 0 where
  pub from : (n ≡ initial p t)
      ⊎ ((e : ℕ) × (has (chain p t) e ≡ true) × (on e ≡ true) × (value p e ≡ n))
  pub above_initial : initial p t ≤ n
  pub above : (e : ℕ) → has (chain p t) e ≡ true → on e ≡ true → value p e ≤ n

abbrev pub with_some : Plan → List ℕ → List ℕ → ℕ → Bool
with_some p done signals e = is_of p done e || has signals e

-- the payload of each chain, with these signals
pub record PayloadsWith (p : Plan) (done signals payloads : List ℕ) : Type 0 where
  pub count : length payloads ≡ length p.script.semaphores
  pub each : (t : ℕ) → t < length p.script.semaphores →
      IsPayloadOf p (with_some p done signals) t (get_or payloads t 0)

-- How far a slow run has come

-- what a slow run keeps beside the jobs that it has done
pub record IsProgress (p : Plan) (done : List ℕ) (marks : List Bool) (payloads heads : List ℕ)
    : Type 0 where
  pub closed : IsClosed p done
  pub marks_right : AreMarks p done marks
  pub payloads_right : ArePayloads p done payloads
  pub heads_right : AreHeads p done heads

-- how far a slow run of the plan of a script has come
pub record HasCome (p : Plan) (s : SlowState) : Type 0 where
  pub plan : IsPlan p
  pub progress : IsProgress p s.order.items s.marks.items s.payloads.items s.heads.items
