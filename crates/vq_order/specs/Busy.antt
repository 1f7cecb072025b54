-- Resets of fences that may be in use, by the last use of each fence.
-- Vulkan 1.3, vkResetFences: each fence is not used by a batch that is still pending.
use Rattle.std.specs.Prelude.{ℕ, ◌≡◌, ◌≢◌, ◌<◌, ◌≤◌, List, true, false, length, Option, Some}
use Rattle.std.specs.Prelude.{None}
use Rattle.std.specs.List.{slice_index_or}
use Rattle.std.specs.Option.{option_map}
use Rattle.vq_model.specs.declared.script.Script.{Script}
use Rattle.vq_model.specs.declared.script.Job.{Job}
use Rattle.vq_model.specs.declared.script.Job.TheVariants.{Host, Batch}
use Rattle.vq_model.specs.declared.script.HostStep.{HostStep}
use Rattle.vq_model.specs.declared.script.HostStep.TheVariants.{FenceReset}
use Rattle.vq_model.specs.Plan.{Plan, chain_of, job_of}
use Rattle.vq_model.specs.Sure.{IsSure}
use Rattle.vq_model.specs.Checks.{names_at, resets_at, IsFenceBusyAt}

-- a job is the last one before another that names or resets a fence, and names it
pub record IsLastNaming (s : Script) (fence naming j : ℕ) : Type 0 where
  pub earlier : naming < j
  pub names : names_at s fence naming ≡ true
  pub between : (k : ℕ) → naming < k → k < j → (names_at s fence k ≡ false) × (resets_at s fence k ≡ false)

-- the last naming of a fence before a job, if it wasn't reset since
abbrev pub IsLastOrNone : Script → ℕ → ℕ → Option ℕ → Type 0
IsLastOrNone s fence j None = (naming : ℕ) → ¬ IsLastNaming s fence naming j
IsLastOrNone s fence j (Some naming) = IsLastNaming s fence naming j

-- that of each fence
pub record AreLastNamings (s : Script) (j : ℕ) (named : List (Option ℕ)) : Type 0 where
  pub count : length named ≡ length s.semaphores
  pub each : (fence : ℕ) → fence < length s.semaphores →
      IsLastOrNone s fence j (slice_index_or named fence None)

-- a signal of a fence by the job that names it isn't sure for another job
pub record IsInUse (p : Plan) (fence naming j : ℕ) : Type 0 where
  pub op : ℕ
  pub in_chain : chain_of p op ≡ Some fence
  pub of_job : job_of p op ≡ Some naming
  pub unsure : ¬ IsSure p op j

-- the fence that a batch names, and the one that a host step resets
abbrev pub named_by : Job → Option ℕ
named_by (Host h) = None
named_by (Batch b) = option_map (λ m. m.semaphore) b.fence

abbrev pub reset_of : HostStep → Option ℕ
reset_of (FenceReset f) = Some f
reset_of other = None

abbrev pub reset_by : Job → Option ℕ
reset_by (Host h) = reset_of h.step
reset_by (Batch b) = None

-- A job resets a fence that may be in use: its line. None says that it doesn't.
abbrev pub IsBusyOrNone : Plan → ℕ → Option ℕ → Type 0
IsBusyOrNone p j None = (n : ℕ) (x : IsFenceBusyAt p n) → x.job ≢ j
IsBusyOrNone p j (Some n) = (x : IsFenceBusyAt p n) × (x.job ≡ j)

-- no job before this one resets a fence that may be in use
abbrev pub NoneBusyBefore : Plan → ℕ → Type 0
NoneBusyBefore p j = (n : ℕ) (x : IsFenceBusyAt p n) → j ≤ x.job
