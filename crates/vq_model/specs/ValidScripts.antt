-- What each script that can be written keeps. This project's own.
use Rattle.std.specs.Prelude.{ℕ, ◌≡◌, ◌<◌, ◌≤◌, ◌⊎◌, Bool, true, false, List, [], ◌∷◌, ◌++◌}
use Rattle.std.specs.Prelude.{length, map, sum, Some, All}
use Rattle.std.specs.List.{slice_get, flat_map}
use Rattle.std.specs.Option.{option_map_or, option_to_list}
use Rattle.vq_model.specs.declared.script.Script.{Script}
use Rattle.vq_model.specs.declared.script.Batch.{Batch}
use Rattle.vq_model.specs.declared.script.Job.{Job}
use Rattle.vq_model.specs.declared.script.Job.TheVariants.{Host, Batch as BatchJob}
use Rattle.vq_model.specs.declared.script.HostLine.{HostLine}
use Rattle.vq_model.specs.declared.script.HostStep.{HostStep}
use Rattle.vq_model.specs.declared.script.HostStep.TheVariants.{Signal, WaitAll, WaitAny, PollAll, PollAny, Read}
use Rattle.vq_model.specs.declared.script.HostStep.TheVariants.{FenceWait, FencePoll, FenceReset, Idle}
use Rattle.vq_model.specs.declared.script.CommandLine.{CommandLine}
use Rattle.vq_model.specs.declared.script.Pair.{Pair}
use Rattle.vq_model.specs.declared.script.Mark.{Mark}
use Rattle.vq_model.specs.declared.script.ActorName.{ActorName}
use Rattle.vq_model.specs.declared.script.ActorName.TheVariants.{Host as HostActor, Submit as SubmitActor}
use Rattle.vq_model.specs.declared.script.ActorName.TheVariants.{Ring as RingActor}
use Rattle.vq_model.specs.Context.{is_fence, is_immediate, is_threaded}
use Rattle.vq_model.specs.Limits.{limits_of}
use Rattle.vq_model.specs.FittingCommands.{Fits}
use Rattle.vq_model.specs.Signals.{Signaling, all_signals, kind_of, is_timeline_at}
use Rattle.vq_ground.specs.Lists.{AreRising}
use Rattle.vq_model.specs.Lowering.{commands_in, batch_commands}

-- the sizes of a script's buffers
abbrev pub sizes_of : Script → List ℕ
sizes_of s = map (λ b. b.size) s.buffers

-- A script stays within the limits of its version.
pub record KeepsLimits (s : Script) : Type 0 where
  pub buffers : length s.buffers ≤ (limits_of s.version).buffers
  pub bytes : sum (sizes_of s) ≤ (limits_of s.version).bytes
  pub semaphores : length s.semaphores ≤ (limits_of s.version).semaphores
  pub queues : length s.queues ≤ (limits_of s.version).queues
  pub jobs : length s.jobs ≤ (limits_of s.version).jobs
  pub commands : sum (map commands_in s.jobs) ≤ (limits_of s.version).commands

-- whether a semaphore of a script is a fence
abbrev pub is_fence_at : Script → ℕ → Bool
is_fence_at s t = option_map_or is_fence (kind_of s t) false

-- A wait or a signal of a batch names a timeline or a binary semaphore, which has no value.
pub record IsValidMark (s : Script) (m : Mark) : Type 0 where
  pub exists : m.semaphore < length s.semaphores
  pub kind : is_fence_at s m.semaphore ≡ false
  pub valueless : is_timeline_at s m.semaphore ≡ false → m.value ≡ 0

-- The fence of a batch is one.
pub record IsValidFence (s : Script) (m : Mark) : Type 0 where
  pub exists : m.semaphore < length s.semaphores
  pub kind : is_fence_at s m.semaphore ≡ true
  pub valueless : m.value ≡ 0

-- A wait holds back the commands of its batch from one of them on, counted from 1. In the first version of
-- the format that is the first: it holds back the whole batch.
pub record HoldsBack (s : Script) (m : Mark) : Type 0 where
  pub counted : 0 < m.from
  pub whole : s.version ≡ 1 → m.from ≡ 1

-- A batch names what exists, of the kinds that its places need, and stays within the limits of a
-- batch.
pub record IsValidBatch (s : Script) (b : Batch) : Type 0 where
  pub queue : b.queue < length s.queues
  pub waits : All (IsValidMark s) b.waits
  pub held : All (HoldsBack s) b.waits
  pub signals : All (IsValidMark s) b.signals
  pub fence : (m : Mark) → b.fence ≡ Some m → IsValidFence s m
  pub few_waits : length b.waits ≤ (limits_of s.version).waits
  pub few_signals : length b.signals ≤ (limits_of s.version).signals

abbrev pub HasValidBatches : Script → Type 0
HasValidBatches s = (j : ℕ) (b : Batch) → slice_get s.jobs j ≡ Some (BatchJob b) → IsValidBatch s b

-- a pair of a host step names a timeline
abbrev pub IsTimelinePair : Script → Pair → Type 0
IsTimelinePair s x = is_timeline_at s x.semaphore ≡ true

-- A host step names timelines and fences that exist, each where its form needs one.
abbrev pub IsValidStep : Script → HostStep → Type 0
IsValidStep s (Signal pair) = IsTimelinePair s pair
IsValidStep s (WaitAll pairs) = All (IsTimelinePair s) pairs
IsValidStep s (WaitAny pairs) = All (IsTimelinePair s) pairs
IsValidStep s (PollAll pairs) = All (IsTimelinePair s) pairs
IsValidStep s (PollAny pairs) = All (IsTimelinePair s) pairs
IsValidStep s (Read t) = is_timeline_at s t ≡ true
IsValidStep s (FenceWait f) = is_fence_at s f ≡ true
IsValidStep s (FencePoll f) = is_fence_at s f ≡ true
IsValidStep s (FenceReset f) = is_fence_at s f ≡ true
IsValidStep s Idle = Unit {0}

abbrev pub HasValidSteps : Script → Type 0
HasValidSteps s = (j : ℕ) (h : HostLine) → slice_get s.jobs j ≡ Some (Host h) → IsValidStep s h.step

-- There are two versions of the format.
abbrev pub IsOfAVersion : Script → Type 0
IsOfAVersion s = (s.version ≡ 1) ⊎ (s.version ≡ 2)

-- Signals name semaphores that exist, commands fit their buffers, and the limits of the version are kept.
pub record IsValid (s : Script) : Type 0 where
  pub version : IsOfAVersion s
  pub signals : (e : ℕ) (x : Signaling) → slice_get (all_signals s) e ≡ Some x →
      x.semaphore < length s.semaphores
  pub commands : (j k : ℕ) (job : Job) (x : CommandLine) → slice_get s.jobs j ≡ Some job →
      slice_get (batch_commands job) k ≡ Some x → Fits (sizes_of s) x.command
  pub limits : KeepsLimits s

-- The lines of a job: its first line, then its waits, its commands, its signals and its fence.
abbrev pub job_lines : Job → List ℕ
job_lines (Host h) = h.line ∷ []
job_lines (BatchJob b) =
    b.line
    ∷ map (λ m. m.line) b.waits
    ++ map (λ c. c.line) b.commands
    ++ map (λ m. m.line) b.signals
    ++ map (λ m. m.line) (option_to_list b.fence)

-- the lines of a script rise in its order
abbrev pub HasRisingLines : Script → Type 0
HasRisingLines s = AreRising (flat_map job_lines s.jobs)

-- whether a queue of a script is immediate
abbrev pub is_immediate_queue : Script → ℕ → Bool
is_immediate_queue s q = option_map_or (λ x. is_immediate x.mode) (slice_get s.queues q) false

-- whether a queue of a script is threaded
abbrev pub is_threaded_queue : Script → ℕ → Bool
is_threaded_queue s q = option_map_or (λ x. is_threaded x.mode) (slice_get s.queues q) false

-- An actor of a script: the host, the thread that submits to a threaded queue, the device's side of
-- a queue.
abbrev pub IsActor : Script → ActorName → Type 0
IsActor s HostActor = Unit {0}
IsActor s (SubmitActor q) = is_threaded_queue s q ≡ true
IsActor s (RingActor q) = q < length s.queues

-- The turns of a schedule are taken by actors of its script, and are few; a script without a schedule
-- has none.
pub record HasValidTurns (s : Script) : Type 0 where
  pub actors : All (λ t. IsActor s t.actor) s.turns
  pub few : length s.turns ≤ (limits_of s.version).turns
  pub none : s.scheduled ≡ false → s.turns ≡ []

-- No schedule stands in a script.
pub record IsUnscheduled (s : Script) : Type 0 where
  pub unscheduled : s.scheduled ≡ false
  pub turns : s.turns ≡ []
