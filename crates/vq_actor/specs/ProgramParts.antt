-- Parts of programs, as they are made. Steps of proofs.
use Rattle.std.specs.Prelude.{ℕ, ◌==◌, nat_lt, Bool, true, false, ◌&&◌, if◌then◌else◌, List, []}
use Rattle.std.specs.Prelude.{◌∷◌}
use Rattle.vq_model.specs.declared.plan.Need.{Need}
use Rattle.vq_model.specs.declared.plan.PlanJob.{PlanJob}
use Rattle.vq_model.specs.declared.plan.Lane.TheVariants.{Queue as QueueLane}
use Rattle.vq_model.specs.Plan.{Plan, of_job, same_lane}
use Rattle.vq_turns.specs.declared.task.Task.{Task}
use Rattle.vq_turns.specs.declared.task.Task.TheVariants.{AwaitNeeds}
use Rattle.vq_actor.specs.declared.programs.waits.Within.{Within}
use Rattle.vq_actor.specs.declared.programs.waits.Within.TheVariants.{Start, Place, Behind, Whole}

-- whether a need is one of those
abbrev pub is_within : Within → Need → Bool
is_within Start n = n.from == 1
is_within (Place place) n = nat_lt 1 place && (n.from == place)
is_within (Behind commands) n = nat_lt 1 n.from && nat_lt commands n.from
is_within Whole n = true

abbrev pub wait_where : Within → Need → List Task
wait_where within n = if is_within within n then AwaitNeeds (n ∷ []) ∷ [] else []

-- whether a job is a batch of a queue
abbrev pub is_of_queue : ℕ → PlanJob → Bool
is_of_queue q job = same_lane (QueueLane q) job.lane

abbrev pub of_queue : Plan → ℕ → ℕ → Bool
of_queue p q j = of_job (is_of_queue q) false p j
