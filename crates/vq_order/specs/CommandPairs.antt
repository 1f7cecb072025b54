-- Pairs of commands that an order is asked of.
-- Vulkan 1.3, "Execution and Memory Dependencies".
use Rattle.std.specs.Prelude.{ℕ, ◌≡◌, ◌≢◌, true}
use Rattle.vq_model.specs.Plan.{Plan, commands_of}
use Rattle.vq_ground.specs.Lists.{has}

-- commands of two jobs
pub record AreOfTwoJobs (p : Plan) (c d : ℕ) : Type 0 where
  pub first_job : ℕ
  pub second_job : ℕ
  pub first : has (commands_of p first_job) c ≡ true
  pub second : has (commands_of p second_job) d ≡ true
  pub two_jobs : first_job ≢ second_job
