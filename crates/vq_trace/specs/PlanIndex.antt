-- What is looked up of a plan.
use Rattle.std.specs.Prelude.{ℕ, ◌≡◌, ◌<◌, ◌^◌, List, length, map}
use Rattle.std.specs.List.{range_with_len}
use Rattle.vq_model.specs.LoweredPlans.{IsPlan}
use Rattle.vq_model.specs.Plan.{Plan, line_of_command, line_of_job}
use Rattle.vq_given.specs.Words.{queue_named, semaphore_named}
use Rattle.vq_trace.specs.declared.index.Index.{Index}
use Rattle.vq_trace.specs.NameTables.{named}

-- What an index of a plan has: the names of semaphores, fences and queues, and the lines of jobs and commands.
pub record IsIndexOf (p : Plan) (index : Index) : Type 0 where
  pub plan : IsPlan p
  pub semaphores : (name : List ℕ) → named index.semaphores name ≡ semaphore_named p name
  pub queues : (name : List ℕ) → named index.queues name ≡ queue_named p name
  pub job_lines : index.job_lines.items ≡ map (line_of_job p) (range_with_len 0 (length p.jobs))
  pub command_lines : index.command_lines.items
      ≡ map (line_of_command p) (range_with_len 0 (length p.commands))
  pub few_commands : length p.commands < 2 ^ 32
