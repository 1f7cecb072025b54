-- How a text calls what a script declares, and its actors. The format is this project's own.
use Rattle.std.specs.Prelude.{ℕ, List, [], ◌++◌, codes, ◌==◌, Bool, true, false}
use Rattle.std.specs.List.{slice_get}
use Rattle.std.specs.Option.{option_map_or}
use Rattle.vq_model.specs.declared.script.Script.{Script}
use Rattle.vq_model.specs.declared.script.SemaphoreKind.{SemaphoreKind}
use Rattle.vq_model.specs.declared.script.SemaphoreKind.TheVariants.{Binary}
use Rattle.vq_model.specs.declared.script.ActorName.{ActorName}
use Rattle.vq_model.specs.declared.script.ActorName.TheVariants.{Host as HostActor, Submit as SubmitActor}
use Rattle.vq_model.specs.declared.script.ActorName.TheVariants.{Ring as RingActor}

-- the name of a buffer, a semaphore, a queue
abbrev pub buffer_name : Script → ℕ → List ℕ
buffer_name s b = option_map_or (λ x. x.name) (slice_get s.buffers b) []

abbrev pub semaphore_name : Script → ℕ → List ℕ
semaphore_name s t = option_map_or (λ x. x.name) (slice_get s.semaphores t) []

abbrev pub semaphore_kind : Script → ℕ → SemaphoreKind
semaphore_kind s t = option_map_or (λ x. x.kind) (slice_get s.semaphores t) Binary

abbrev pub queue_name : Script → ℕ → List ℕ
queue_name s q = option_map_or (λ x. x.name) (slice_get s.queues q) []

-- the word of an actor
abbrev pub actor_word : Script → ActorName → List ℕ
actor_word s HostActor = codes "host"
actor_word s (SubmitActor q) = codes "S:" ++ queue_name s q
actor_word s (RingActor q) = codes "R:" ++ queue_name s q

-- whether two actors are one
abbrev pub same_actor : ActorName → ActorName → Bool
same_actor HostActor HostActor = true
same_actor (SubmitActor q) (SubmitActor r) = q == r
same_actor (RingActor q) (RingActor r) = q == r
same_actor a b = false
