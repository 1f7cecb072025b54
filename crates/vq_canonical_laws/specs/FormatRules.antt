-- The rules of the format for a script without a schedule: what makes it one that can be written.
-- The format is this project's own.
use Rattle.std.specs.Prelude.{ℕ, ◌≡◌, ◌<◌, ◌≤◌, ◌^◌, ◌+◌, Bool, true, false, not, ◌&&◌, List, [], ◌∷◌, ◌++◌, length, map, Option, Some, None}
use Rattle.std.specs.List.{AllByRecursion as Every, list_any, slice_get}
use Rattle.std.specs.Str.{bytes_eq}
use Rattle.vq_model.specs.declared.script.Buffer.{Buffer}
use Rattle.vq_model.specs.declared.script.Semaphore.{Semaphore}
use Rattle.vq_model.specs.declared.script.SemaphoreKind.{SemaphoreKind}
use Rattle.vq_model.specs.declared.script.SemaphoreKind.TheVariants.{Timeline, Binary, Fence}
use Rattle.vq_model.specs.declared.script.Pair.{Pair}
use Rattle.vq_model.specs.declared.script.Mark.{Mark}
use Rattle.vq_model.specs.declared.script.Command.{Command}
use Rattle.vq_model.specs.declared.script.Command.TheVariants.{Fill, Update, Copy}
use Rattle.vq_model.specs.declared.script.FillSize.TheVariants.{Whole, Count}
use Rattle.vq_model.specs.declared.script.HostStep.{HostStep}
use Rattle.vq_model.specs.declared.script.HostStep.TheVariants.{Signal, WaitAll, WaitAny, PollAll, PollAny, Read}
use Rattle.vq_model.specs.declared.script.HostStep.TheVariants.{FenceWait, FencePoll, FenceReset, Idle}
use Rattle.vq_model.specs.declared.script.Batch.{Batch}
use Rattle.vq_model.specs.declared.script.Job.{Job}
use Rattle.vq_model.specs.declared.script.Job.TheVariants.{Host, Batch as BatchJob}
use Rattle.vq_model.specs.declared.script.Script.{Script}
use Rattle.vq_model.specs.Text.{is_name}
use Rattle.vq_model.specs.Context.{is_timeline, is_fence}
use Rattle.vq_model.specs.Limits.{limits_of}
use Rattle.vq_model.specs.LineFaults.{is_command_in_range}
use Rattle.vq_model.specs.Ranges.{overlaps_itself}
use Rattle.vq_model.specs.SameScript.{without_lines}
use Rattle.vq_model.specs.ValidScripts.{KeepsLimits, IsUnscheduled, HoldsBack, IsOfAVersion}

-- Numbers that a line can hold

-- each of these is below 256
abbrev pub AllBytes : List ℕ → Type 0
AllBytes [] = Unit {0}
AllBytes (b ∷ bytes) = (b < 256) × AllBytes bytes

-- a command's offsets, sizes, word and bytes are such numbers
abbrev pub HasNumerals : Command → Type 0
HasNumerals (Fill b o Whole w) = (o < 2 ^ 64) × (w < 2 ^ 32)
HasNumerals (Fill b o (Count n) w) = (o < 2 ^ 64) × (n < 2 ^ 64) × (w < 2 ^ 32)
HasNumerals (Update b o bytes) = (o < 2 ^ 64) × AllBytes bytes
HasNumerals (Copy s from t to n) = (from < 2 ^ 64) × (to < 2 ^ 64) × (n < 2 ^ 64)

-- so is a timeline's first value
abbrev pub HasValue : SemaphoreKind → Type 0
HasValue (Timeline value) = value < 2 ^ 64
HasValue other = Unit {0}

-- Declarations

-- names that may be declared one after another, after others: each is a name, and a new one
abbrev pub are_new : List (List ℕ) → List (List ℕ) → Bool
are_new before [] = true
are_new before (name ∷ names) =
    is_name name && not (list_any (bytes_eq name) before) && are_new (before ++ name ∷ []) names

-- the names of a script, in the order of their declarations
abbrev pub names_of : Script → List (List ℕ)
names_of s =
    map (λ b. b.name) s.buffers ++ map (λ x. x.name) s.semaphores ++ map (λ q. q.name) s.queues

-- Commands

-- the sizes of buffers
abbrev pub sizes_in : List Buffer → List ℕ
sizes_in bs = map (λ b. b.size) bs

-- a command of a batch: it lies in its buffers, and a copy doesn't overlap itself
pub record IsCommandOf (bs : List Buffer) (c : Command) : Type 0 where
  pub range : is_command_in_range bs c ≡ true
  pub apart : overlaps_itself (sizes_in bs) c ≡ false
  pub numerals : HasNumerals c

-- Semaphores

-- a semaphore whose kind passes a test
pub record IsOfKindIn (test : SemaphoreKind → Bool) (ss : List Semaphore) (t : ℕ) : Type 0 where
  pub semaphore : Semaphore
  pub there : slice_get ss t ≡ Some semaphore
  pub tested : test semaphore.kind ≡ true

-- a pair of a timeline and a value that a line can hold
abbrev pub IsTimed : List Semaphore → Pair → Type 0
IsTimed ss pair = IsOfKindIn is_timeline ss pair.semaphore × (pair.value < 2 ^ 64)

-- such pairs, one at least, and as many as a step of a version may have
pub record AreTimed (version : ℕ) (ss : List Semaphore) (pairs : List Pair) : Type 0 where
  pub all : Every (IsTimed ss) pairs
  pub some_pairs : 0 < length pairs
  pub few : length pairs ≤ (limits_of version).pairs

-- a step of the host names timelines and fences, each where its form needs one
abbrev pub StepFits : ℕ → List Semaphore → HostStep → Type 0
StepFits version ss (Signal pair) = IsTimed ss pair
StepFits version ss (WaitAll pairs) = AreTimed version ss pairs
StepFits version ss (WaitAny pairs) = AreTimed version ss pairs
StepFits version ss (PollAll pairs) = AreTimed version ss pairs
StepFits version ss (PollAny pairs) = AreTimed version ss pairs
StepFits version ss (Read t) = IsOfKindIn is_timeline ss t
StepFits version ss (FenceWait f) = IsOfKindIn is_fence ss f
StepFits version ss (FencePoll f) = IsOfKindIn is_fence ss f
StepFits version ss (FenceReset f) = IsOfKindIn is_fence ss f
StepFits version ss Idle = Unit {0}

-- a semaphore takes a value as a mark of a wait or a signal: a timeline one of 64 bits, a binary
-- semaphore none
abbrev pub TakesValue : SemaphoreKind → ℕ → Type 0
TakesValue (Timeline initial) value = value < 2 ^ 64
TakesValue Binary value = value ≡ 0
TakesValue Fence value = ⊥

-- a pair names a semaphore that takes its value
pub record IsMarked (ss : List Semaphore) (pair : Pair) : Type 0 where
  pub semaphore : Semaphore
  pub there : slice_get ss pair.semaphore ≡ Some semaphore
  pub takes : TakesValue semaphore.kind pair.value

-- the pair of a mark
abbrev pub pair_of : Mark → Pair
pair_of m = record { semaphore = m.semaphore; value = m.value }

-- a wait of a batch with so many commands: it holds back one of them or more, or at least its signals
pub record IsWaitOf (s : Script) (commands : ℕ) (m : Mark) : Type 0 where
  pub marked : IsMarked s.semaphores (pair_of m)
  pub held : HoldsBack s m
  pub near : m.from ≤ commands + 1

-- a signal names no place within its batch
abbrev pub IsSignalOf : List Semaphore → Mark → Type 0
IsSignalOf ss m = IsMarked ss (pair_of m) × (m.from ≡ 1)

-- the fence of a batch, where it names one
abbrev pub IsFenceOf : List Semaphore → Option Mark → Type 0
IsFenceOf ss None = Unit {0}
IsFenceOf ss (Some m) = IsOfKindIn is_fence ss m.semaphore × (m.value ≡ 0) × (m.from ≡ 1)

-- Jobs

-- a batch of a script
pub record BatchFits (s : Script) (b : Batch) : Type 0 where
  pub queue : b.queue < length s.queues
  pub waits : Every (IsWaitOf s (length b.commands)) b.waits
  pub commands : Every (λ c. IsCommandOf s.buffers c.command) b.commands
  pub signals : Every (IsSignalOf s.semaphores) b.signals
  pub fence : IsFenceOf s.semaphores b.fence
  pub few_waits : length b.waits ≤ (limits_of s.version).waits
  pub few_commands : length b.commands ≤ (limits_of s.version).batch_commands
  pub few_signals : length b.signals ≤ (limits_of s.version).signals

abbrev pub JobFits : Script → Job → Type 0
JobFits s (Host h) = StepFits s.version s.semaphores h.step
JobFits s (BatchJob b) = BatchFits s b

-- A script without a schedule keeps the rules of the format, in either of its versions. It has no numbers
-- of lines.
pub record KeepsRules (s : Script) : Type 0 where
  pub version : IsOfAVersion s
  pub lineless : without_lines s ≡ s
  pub unscheduled : IsUnscheduled s
  pub names : are_new [] (names_of s) ≡ true
  pub some_bytes : Every (λ b. 0 < b.size) s.buffers
  pub values : Every (λ x. HasValue x.kind) s.semaphores
  pub jobs : Every (JobFits s) s.jobs
  pub limits : KeepsLimits s
