-- Signal operations that are sure to be made before a job comes to a place, and chains that rise in
-- a sure order. Vulkan 1.3, "Semaphores": a signal's value is greater than the payload when it
-- executes.
use Rattle.std.specs.Prelude.{ℕ, ◌≡◌, true, Some, ◌≤◌}
use Rattle.vq_model.specs.Plan.{Plan, job_of, value}
use Rattle.vq_ground.specs.Lists.{has}
use Rattle.vq_model.specs.Edges.{must_finish, Stage, awaited_at, AtEnd}
use Rattle.vq_model.specs.HappensBefore.{comes_earlier, IsHop}

-- the job of an operation is finished before this one starts
pub record IsFinishedFirst (p : Plan) (e j : ℕ) : Type 0 where
  pub job : ℕ
  pub of_job : job_of p e ≡ Some job
  pub first : has (must_finish p j) job ≡ true
  pub earlier : comes_earlier p job j ≡ true

-- a place of a job waits for this operation, or for a later one of the same job
pub record IsWaitedFor (p : Plan) (e j : ℕ) (k : Stage) : Type 0 where
  pub job : ℕ
  pub of_job : job_of p e ≡ Some job
  pub by_op : ℕ
  pub same_job : job_of p by_op ≡ Some job
  pub at_or_later : e ≤ by_op
  pub waits : has (awaited_at p j k) by_op ≡ true
  pub earlier : comes_earlier p job j ≡ true

-- A signal operation is sure to be made before a job comes to a place. A job that waits for a
-- batch's first signal may run before the batch's second one is made: so happens-before alone
-- doesn't order signals.
pub data IsSureAt (p : Plan) (e : ℕ) : ℕ → Stage → Type 0 where
  finished_first : {j : ℕ} {k : Stage} → IsFinishedFirst p e j → IsSureAt p e j k
  waited_for : {j : ℕ} {k : Stage} → IsWaitedFor p e j k → IsSureAt p e j k
  passed_on : {i j : ℕ} {k : Stage} → IsSureAt p e i AtEnd → IsHop p i j k → IsSureAt p e j k

-- sure for a job: made before its end, and so before its signals and its finish
abbrev pub IsSure : Plan → ℕ → ℕ → Type 0
IsSure p e j = IsSureAt p e j AtEnd
