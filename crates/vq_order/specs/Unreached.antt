-- The least line of a wait that the slow run leaves unreached.
-- Vulkan 1.3, "Semaphore Waiting". The slow run is this project's own.
use Rattle.std.specs.Prelude.{ℕ, ◌≡◌, true, Option, Some, None}
use Rattle.std.specs.List.{slice_index_or}
use Rattle.vq_model.specs.declared.plan.Need.{Need}
use Rattle.vq_model.specs.Checks.{IsLeast, NoLine, is_unreached}
use Rattle.vq_model.specs.LoweredPlans.{IsPlan}
use Rattle.vq_model.specs.Plan.{Plan}
use Rattle.vq_model.specs.SlowRun.{slow_order, left_over}
use Rattle.vq_spec.specs.declared.order.SlowOrder.{SlowOrder}
use Rattle.vq_order.specs.LeastLines.{IsOfNeeds}
use Rattle.vq_spec.specs.SlowProgress.{ArePayloads}

-- what is known of the slow run of the plan of a script
pub record HasRun (p : Plan) (run : SlowOrder) : Type 0 where
  pub plan : IsPlan p
  pub order : run.order ≡ slow_order p
  pub stuck : run.stuck ≡ left_over p
  pub payloads : ArePayloads p (slow_order p) run.payloads

-- the least number of which something holds, or none
abbrev pub IsLeastOrNone : (ℕ → Type 0) → Option ℕ → Type 0
IsLeastOrNone P None = NoLine P
IsLeastOrNone P (Some n) = IsLeast P n

-- the line of an unreached need, twice
pub record IsUnreached (p : Plan) (j : ℕ) (n : Need) (a b : ℕ) : Type 0 where
  pub unreached : is_unreached p j n ≡ true
  pub first : a ≡ n.line
  pub second : b ≡ n.line

-- in a job
abbrev pub IsUnreachedIn : Plan → ℕ → ℕ → ℕ → Type 0
IsUnreachedIn p j a b = IsOfNeeds p (IsUnreached p j) j a b

-- in one of the jobs that are left
abbrev pub IsUnreachedAt : Plan → ℕ → ℕ → ℕ → Type 0
IsUnreachedAt p k a b = IsUnreachedIn p (slice_index_or (left_over p) k 0) a b
