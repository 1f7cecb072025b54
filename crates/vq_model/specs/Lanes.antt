-- What the plan of a script that was read keeps of its lanes, its chains and its lines.
-- Vulkan 1.3, "Queue Submission" (submission order). The lanes are this project's own.
use Rattle.std.specs.Prelude.{ℕ, ◌≡◌, ◌<◌, ◌≤◌, ◌+◌, ◌^◌, true, length, Some, All}
use Rattle.vq_model.specs.declared.plan.Lane.{Lane}
use Rattle.vq_model.specs.declared.plan.Lane.TheVariants.{Host, Queue}
use Rattle.vq_model.specs.Plan.{Plan, of_job, previous, job_of, chain_of, needs, line_of_command, line_of_op}
use Rattle.vq_ground.specs.Lists.{has}
use Rattle.vq_model.specs.Edges.{AtEnd, must_finish, awaited_at}

-- lanes by number: the host's lane, then those of the queues
abbrev pub lane_number : Lane → ℕ
lane_number Host = 0
lane_number (Queue q) = q + 1

-- the number of a job's lane
abbrev pub lane_at : Plan → ℕ → ℕ
lane_at p j = of_job (λ x. lane_number x.lane) 0 p j

-- The job before another one in its lane is the last one there that is written before it: it is an
-- earlier job of the lane, or stands between it and the other one.
pub record IsJustBefore (p : Plan) (i j : ℕ) : Type 0 where
  pub job : ℕ
  pub is_previous : previous p j ≡ Some job
  pub at_or_later : i ≤ job
  pub below : job < j
  pub same_lane : lane_at p job ≡ lane_at p j

-- Lanes are in the order of the script, operations are numbered in the order of their jobs, and all
-- numbers are of jobs, lanes and operations that exist.
pub record KeepsLanes (p : Plan) : Type 0 where
  pub lane : (i j : ℕ) → i < j → j < length p.jobs → lane_at p i ≡ lane_at p j → IsJustBefore p i j
  pub ops_rise : (e f i j : ℕ) → job_of p e ≡ Some i → job_of p f ≡ Some j → i < j → e < f
  pub job_exists : (e i : ℕ) → job_of p e ≡ Some i → i < length p.jobs
  pub first_exists : (i j : ℕ) → has (must_finish p j) i ≡ true → i < length p.jobs
  pub awaited_exists : (j e : ℕ) → has (awaited_at p j AtEnd) e ≡ true → e < length p.ops
  pub lane_exists : (j : ℕ) → lane_at p j ≤ length p.script.queues
  pub few_jobs : length p.jobs < 2 ^ 32
  pub few_ops : length p.ops < 2 ^ 32

-- Each chain is that of a semaphore or a fence, and operations and needs are of chains that exist.
pub record KeepsSemaphores (p : Plan) : Type 0 where
  pub op_chain : (e t : ℕ) → chain_of p e ≡ Some t → t < length p.script.semaphores
  pub needs_chain : (j : ℕ) → All (λ n. n.chain < length p.script.semaphores) (needs p j)
  pub few : length p.script.semaphores < 2 ^ 32
  pub initials : length p.initials ≡ length p.script.semaphores
  pub chains : length p.chains ≡ length p.script.semaphores

-- The lines of commands rise with their numbers, and those of operations.
pub record HasLinesInOrder (p : Plan) : Type 0 where
  pub commands : (c d : ℕ) → c < d → d < length p.commands →
      line_of_command p c < line_of_command p d
  pub ops : (e f : ℕ) → e < f → f < length p.ops → line_of_op p e < line_of_op p f
