-- What must be finished before a job of a plan, and what it waits for.
use Rattle.std.specs.Prelude.{ℕ, List, [], ◌++◌, nat_lt, if◌then◌else◌, filter, filter_map}
use Rattle.std.specs.Option.{option_to_list}
use Rattle.vq_model.specs.declared.plan.Need.{Need}
use Rattle.vq_model.specs.declared.plan.PlanJob.{PlanJob}
use Rattle.vq_model.specs.Plan.{Plan, initial, resolver}

-- the jobs that must be finished before a job starts
abbrev pub finished_before : PlanJob → List ℕ
finished_before job =
    option_to_list job.previous ++ option_to_list job.host_before ++ job.idle_after

-- the operations that resolve needs, where these are above the initial values
abbrev pub resolving : Plan → List Need → List ℕ
resolving p ns =
    filter_map (λ n. resolver p n.chain n.value)
    (filter (λ n. nat_lt (initial p n.chain) n.value) ns)

-- the operations that a job waits for; none where it waits for any of several
abbrev pub awaited_by : Plan → PlanJob → List ℕ
awaited_by p job = if job.any then [] else resolving p job.needs
