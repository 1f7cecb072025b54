-- The program of each actor: the tasks that it does, one after another. This project's own, over
-- Vulkan 1.3, "Queue Submission".
use Rattle.std.specs.Prelude.{ℕ, ◌==◌, nat_lt, Bool, true, false, ◌&&◌, if◌then◌else◌, List, []}
use Rattle.std.specs.Prelude.{◌∷◌, ◌++◌, length, map}
use Rattle.std.specs.Prelude.{filter}
use Rattle.std.specs.List.{slice_get, flat_map, range_with_len, enumerate_from}
use Rattle.std.specs.Option.{option_map_or}
use Rattle.vq_model.specs.declared.script.ActorName.{ActorName}
use Rattle.vq_model.specs.declared.script.ActorName.TheVariants.{Host as HostActor, Submit as SubmitActor}
use Rattle.vq_model.specs.declared.script.ActorName.TheVariants.{Ring as RingActor}
use Rattle.vq_model.specs.declared.plan.Lane.TheVariants.{Queue as QueueLane}
use Rattle.vq_model.specs.declared.plan.Need.{Need}
use Rattle.vq_model.specs.Plan.{Plan, needs, asked, waits_for_any, idle_after, commands_of, signals_of, chain_of}
use Rattle.vq_model.specs.Plan.{question, is_host_step, is_silent}
use Rattle.vq_model.specs.Edges.{AtEnd, awaited_at}
use Rattle.vq_model.specs.Checks.{is_immediate_batch}
use Rattle.vq_model.specs.Context.{is_deferred}
use Rattle.vq_point_laws.specs.Points.{jobs_of_lane}
use Rattle.vq_turns.specs.declared.task.Task.{Task}
use Rattle.vq_turns.specs.declared.task.Task.TheVariants.{AwaitSubmitted, AwaitReleased, AwaitFinished, AwaitBound}
use Rattle.vq_turns.specs.declared.task.Task.TheVariants.{AwaitNeeds, Submit, Take, Release, Bind, Start, Apply, Signal}
use Rattle.vq_turns.specs.declared.task.Task.TheVariants.{Compare, Answer, Finish}

-- the waits for those needs of a job that pass a test, in line order, each by itself
abbrev pub waits_where : Plan → ℕ → (Need → Bool) → List Task
waits_where p j test = map (λ n. AwaitNeeds (n ∷ [])) (filter test (needs p j))

-- each signal of a job gets a point
abbrev pub takes : Plan → ℕ → List Task
takes p j = map (λ e. Take e (option_map_or (λ t. t) (chain_of p e) 0)) (signals_of p j)

-- Submit actors

-- The signals for which a batch waits are pending; each of its own signals gets a point; it is released;
-- its signals are bound.
abbrev pub moves_batch : Plan → ℕ → List Task
moves_batch p j =
    map AwaitBound (awaited_at p j AtEnd) ++ takes p j ++ Release j ∷ [] ++ map Bind (signals_of p j)

abbrev pub submits_batch : Plan → ℕ → List Task
submits_batch p j = AwaitSubmitted j ∷ moves_batch p j

-- Rings

-- each command, by its place, comes after the needs that hold back this place
abbrev pub runs_command : Plan → ℕ → ℕ × ℕ → List Task
runs_command p j (place, c) = waits_where p j (λ n. nat_lt 1 place && (n.from == place)) ++ Apply j c ∷ []

-- A batch is released; its first needs are met; it starts; its commands are applied; the needs that are
-- left are met; it signals and finishes.
abbrev pub runs_batch : Plan → ℕ → List Task
runs_batch p j =
    AwaitReleased j ∷ []
    ++ waits_where p j (λ n. n.from == 1)
    ++ Start j ∷ []
    ++ flat_map (runs_command p j) (enumerate_from 1 (commands_of p j))
    ++ waits_where p j (λ n. nat_lt 1 n.from && nat_lt (length (commands_of p j)) n.from)
    ++ map Signal (signals_of p j)
    ++ Finish j ∷ []

-- The host

abbrev pub host_waits : Plan → ℕ → List Task
host_waits p j = if waits_for_any p j then AwaitNeeds (needs p j) ∷ [] else waits_where p j (λ n. true)

-- A step waits for its needs, or for one of them, and for the jobs that an idle step names; it starts; it
-- signals; it compares what it was asked, and answers; it finishes. What a step hasn't is an empty list.
abbrev pub does_step : Plan → ℕ → List Task
does_step p j =
    host_waits p j
    ++ map AwaitFinished (idle_after p j)
    ++ Start j ∷ []
    ++ takes p j
    ++ map Bind (signals_of p j)
    ++ map Signal (signals_of p j)
    ++ map (λ n. Compare n.chain n.value) (asked p j)
    ++ (if is_silent (question p j) then [] else Answer j (question p j) ∷ [])
    ++ Finish j ∷ []

-- the host submits each batch, and moves those of immediate queues
abbrev pub host_does : Plan → ℕ → List Task
host_does p j =
    if is_host_step p j
    then does_step p j
    else Submit j ∷ (if is_immediate_batch p j then moves_batch p j else [])

abbrev pub program : Plan → ActorName → List Task
program p HostActor = flat_map (host_does p) (range_with_len 0 (length p.jobs))
program p (SubmitActor q) = flat_map (submits_batch p) (jobs_of_lane p (QueueLane q))
program p (RingActor q) = flat_map (runs_batch p) (jobs_of_lane p (QueueLane q))

-- Deferred queues

abbrev pub is_deferred_queue : Plan → ℕ → Bool
is_deferred_queue p q = option_map_or (λ x. is_deferred x.mode) (slice_get p.script.queues q) false

-- the deferred queues, whose submit actors the host serves
abbrev pub deferred_queues : Plan → List ℕ
deferred_queues p = filter (is_deferred_queue p) (range_with_len 0 (length p.script.queues))
