-- A plan: jobs in lanes, and a chain of signal operations for each semaphore and each fence.
-- Vulkan 1.3, "Semaphores" and "Fences" (payloads, signal and wait operations), "Queue Submission"
-- (batches).
use Rattle.std.specs.Prelude.{ℕ, List, ◌==◌, Bool, Option, None, [], false, true, nat_lt, not, ◌&&◌, length}
use Rattle.std.specs.Prelude.{nat_le}
use Rattle.std.specs.Prelude.{find}
use Rattle.std.specs.List.{slice_get}
use Rattle.std.specs.Option.{option_map, option_map_or}
use Rattle.vq_model.specs.declared.script.Script.{Script}
use Rattle.vq_model.specs.declared.script.CommandLine.{CommandLine}
use Rattle.vq_model.specs.declared.plan.Op.{Op}
use Rattle.vq_model.specs.declared.plan.PlanJob.{PlanJob}
use Rattle.vq_model.specs.declared.script.Command.{Command}
use Rattle.vq_model.specs.declared.plan.Need.{Need}
use Rattle.vq_model.specs.declared.plan.Question.{Question}
use Rattle.vq_model.specs.declared.plan.Question.TheVariants.{Silent}
use Rattle.vq_model.specs.declared.plan.Lane.{Lane}
use Rattle.vq_model.specs.declared.plan.Lane.TheVariants.{Host as HostLane, Queue as QueueLane, Host, Queue}

pub record Plan : Type 0 where
  pub script : Script
  -- the size of each buffer
  pub sizes : List ℕ
  -- the commands of all batches
  pub commands : List CommandLine
  pub jobs : List PlanJob
  pub ops : List Op
  -- the initial value of each chain
  pub initials : List ℕ
  -- the signal operations of each chain, by value and then by line
  pub chains : List (List ℕ)

-- Commands and jobs

abbrev pub command_at : Plan → ℕ → Option Command
command_at p c = option_map (λ x. x.command) (slice_get p.commands c)

abbrev pub line_of_command : Plan → ℕ → ℕ
line_of_command p c = option_map_or (λ x. x.line) (slice_get p.commands c) 0

-- a part of a job, or this where there is no such job
abbrev pub of_job : {B : Type 0} → (PlanJob → B) → B → Plan → ℕ → B
of_job part none p j = option_map_or part (slice_get p.jobs j) none

abbrev pub line_of_job : Plan → ℕ → ℕ
line_of_job p j = of_job (λ x. x.line) 0 p j

abbrev pub previous : Plan → ℕ → Option ℕ
previous p j = of_job (λ x. x.previous) None p j

abbrev pub host_before : Plan → ℕ → Option ℕ
host_before p j = of_job (λ x. x.host_before) None p j

abbrev pub needs : Plan → ℕ → List Need
needs p j = of_job (λ x. x.needs) [] p j

abbrev pub asked : Plan → ℕ → List Need
asked p j = of_job (λ x. x.asked) [] p j

abbrev pub waits_for_any : Plan → ℕ → Bool
waits_for_any p j = of_job (λ x. x.any) false p j

abbrev pub idle_after : Plan → ℕ → List ℕ
idle_after p j = of_job (λ x. x.idle_after) [] p j

abbrev pub commands_of : Plan → ℕ → List ℕ
commands_of p j = of_job (λ x. x.commands) [] p j

abbrev pub signals_of : Plan → ℕ → List ℕ
signals_of p j = of_job (λ x. x.signals) [] p j

abbrev pub question : Plan → ℕ → Question
question p j = of_job (λ x. x.question) Silent p j

abbrev pub is_silent : Question → Bool
is_silent Silent = true
is_silent other = false

-- Lanes

abbrev pub same_lane : Lane → Lane → Bool
same_lane HostLane HostLane = true
same_lane (QueueLane q) (QueueLane r) = q == r
same_lane a b = false

abbrev pub is_host_lane : Lane → Bool
is_host_lane Host = true
is_host_lane (Queue q) = false

-- host steps stand in the host's lane, batches in those of the queues
abbrev pub is_host_step : Plan → ℕ → Bool
is_host_step p j = of_job (λ x. is_host_lane x.lane) false p j

abbrev pub is_batch : Plan → ℕ → Bool
is_batch p j = nat_lt j (length p.jobs) && not (is_host_step p j)

-- Chains

abbrev pub chain : Plan → ℕ → List ℕ
chain p t = option_map_or (λ x. x) (slice_get p.chains t) []

abbrev pub initial : Plan → ℕ → ℕ
initial p t = option_map_or (λ x. x) (slice_get p.initials t) 0

-- the value that a signal operation sets
abbrev pub value : Plan → ℕ → ℕ
value p e = option_map_or (λ o. o.value) (slice_get p.ops e) 0

-- the job of a signal operation
abbrev pub job_of : Plan → ℕ → Option ℕ
job_of p e = option_map (λ o. o.job) (slice_get p.ops e)

abbrev pub chain_of : Plan → ℕ → Option ℕ
chain_of p e = option_map (λ o. o.chain) (slice_get p.ops e)

abbrev pub line_of_op : Plan → ℕ → ℕ
line_of_op p e = option_map_or (λ o. o.line) (slice_get p.ops e) 0

-- what resolves a wait for a value: the first signal operation of the chain with that value or a
-- greater one
abbrev pub resolver : Plan → ℕ → ℕ → Option ℕ
resolver p t v = find (λ e. nat_le v (value p e)) (chain p t)
