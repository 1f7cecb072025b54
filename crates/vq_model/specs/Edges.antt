-- What a job waits for: the jobs with an edge to it, and to a place in it.
-- Vulkan 1.3, "Semaphore Waiting", "Queue Submission"; vkDeviceWaitIdle.
use Rattle.std.specs.Prelude.{ℕ, List, ◌++◌, suc, ◌==◌, nat_le, filter, nat_lt}
use Rattle.std.specs.Prelude.{if◌then◌else◌, []}
use Rattle.std.specs.Option.{option_to_list}
use Rattle.std.specs.List.{position_or_len, filter_map}
use Rattle.vq_model.specs.declared.plan.Need.{Need}
use Rattle.vq_model.specs.Plan.{Plan, previous, host_before, idle_after, commands_of, needs, waits_for_any, initial}
use Rattle.vq_model.specs.Plan.{resolver, job_of}

-- The jobs that must be finished before a job starts: the one before it in its lane, the last host
-- step before a batch, and those that an idle step waits for (Vulkan 1.3, vkDeviceWaitIdle). That a
-- queue's batches run one after another, their commands and signals included, is the project's own:
-- Vulkan lets them overlap.
abbrev pub must_finish : Plan → ℕ → List ℕ
must_finish p j =
    option_to_list (previous p j) ++ option_to_list (host_before p j) ++ idle_after p j

-- Places of a job

-- A place in a job. A batch's commands are at the places 1, 2 and so on; a job starts at place 1.
-- Its signals and its finish come at the end.
pub data Stage : Type 0 where
  At : ℕ → Stage
  AtEnd : Stage

-- the place of a command in its job
abbrev pub stage_of : Plan → ℕ → ℕ → Stage
stage_of p j c = At (suc (position_or_len (λ d. d == c) (commands_of p j)))

-- The needs that hold back a place of a job: those from this place or an earlier one on; at the end
-- all needs.
abbrev pub needs_at : Plan → ℕ → Stage → List Need
needs_at p j (At k) = filter (λ n. nat_le n.from k) (needs p j)
needs_at p j AtEnd = needs p j

-- Edges

-- the signal operations that resolve the needs at a place of a job that are above the initial
-- values; none where the job waits for any of several
abbrev pub awaited_at : Plan → ℕ → Stage → List ℕ
awaited_at p j k =
    if waits_for_any p j
    then []
    else filter_map (λ n. resolver p n.chain n.value)
    (filter (λ n. nat_lt (initial p n.chain) n.value) (needs_at p j k))

-- The jobs with an edge to a place of a job: those that must be finished before it, and those of
-- the operations that hold back the place.
abbrev pub edges_at : Plan → ℕ → Stage → List ℕ
edges_at p j k = must_finish p j ++ filter_map (job_of p) (awaited_at p j k)
