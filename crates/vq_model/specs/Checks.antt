-- What a plan is refused for, and which lines are named.
-- Vulkan 1.3, "Semaphore Signaling", "Semaphore Waiting", "Fences", "Execution and Memory
-- Dependencies". The names of the faults, their order and the lines that they name are this
-- project's own.
use Rattle.std.specs.Prelude.{ℕ, ◌≤◌, ◌≡◌, ◌<◌, ◌⊎◌, Bool, not, if◌then◌else◌, true, Some}
use Rattle.std.specs.Prelude.{◌+◌, ◌≢◌, false, ◌||◌, []}
use Rattle.std.specs.List.{list_any, slice_get}
use Rattle.std.specs.Option.{option_map_or}
use Rattle.vq_model.specs.declared.plan.Need.{Need}
use Rattle.vq_model.specs.declared.script.SemaphoreKind.TheVariants.{Binary}
use Rattle.vq_model.specs.declared.script.Script.{Script}
use Rattle.vq_model.specs.declared.plan.Lane.{Lane}
use Rattle.vq_model.specs.declared.plan.Lane.TheVariants.{Host as HostLane, Queue as QueueLane}
use Rattle.vq_model.specs.declared.plan.OrderFault.{OrderFault}
use Rattle.vq_model.specs.declared.plan.OrderFault.TheVariants.{Unreachable, Unordered, FenceBusy, NotPending, Race}
use Rattle.vq_model.specs.declared.plan.OrderFault.TheVariants.{Memory}
use Rattle.vq_model.specs.Context.{is_immediate}
use Rattle.vq_model.specs.Plan.{Plan, needs, waits_for_any, chain, chain_of, line_of_op, initial, value, job_of}
use Rattle.vq_ground.specs.Lists.{has}
use Rattle.vq_model.specs.Plan.{line_of_job, of_job, resolver, is_host_step, line_of_command}
use Rattle.vq_model.specs.Machine.{is_reached}
use Rattle.vq_model.specs.SlowRun.{payload_after, slow_order, left_over}
use Rattle.vq_model.specs.Signals.{is_timeline_at, kind_of}
use Rattle.vq_model.specs.HappensBefore.{HappensBefore}
use Rattle.vq_model.specs.Sure.{IsSure}
use Rattle.vq_model.specs.Lowering.{names_fence, resets_fence}
use Rattle.vq_model.specs.Races.{IsRace}

-- the least of the numbers of which something holds
pub record IsLeast (P : ℕ → Type 0) (n : ℕ) : Type 0 where
  pub holds : P n
  pub least : (m : ℕ) → P m → n ≤ m

-- of pairs the least by the second number, and then by the first
pub record IsLeastPair (P : ℕ → ℕ → Type 0) (a b : ℕ) : Type 0 where
  pub holds : P a b
  pub least : (c d : ℕ) → P c d → (b < d) ⊎ ((b ≡ d) × (a ≤ c))

-- a need that is unreached in a job that the slow run leaves; of a wait for any the whole step,
-- where no pair is reached
abbrev pub is_unreached : Plan → ℕ → Need → Bool
is_unreached p j n =
    if waits_for_any p j
    then not (list_any (is_reached (payload_after p (slow_order p))) (needs p j))
    else not (is_reached (payload_after p (slow_order p)) n)

pub record IsUnreachableAt (p : Plan) (line : ℕ) : Type 0 where
  pub job : ℕ
  pub left : has (left_over p) job ≡ true
  pub need : Need
  pub place : ℕ
  pub of_job : slice_get (needs p job) place ≡ Some need
  pub unreached : is_unreached p job need ≡ true
  pub named : line ≡ need.line

abbrev pub is_timeline_chain : Plan → ℕ → Bool
is_timeline_chain p t = is_timeline_at p.script t

-- operations that are neighbours in a chain
pub record AreNeighbours (p : Plan) (t e f : ℕ) : Type 0 where
  pub place : ℕ
  pub first : slice_get (chain p t) place ≡ Some e
  pub second : slice_get (chain p t) (place + 1) ≡ Some f

-- the next signal of a binary semaphore that is written after a wait
pub record IsNextSignal (p : Plan) (t line e : ℕ) : Type 0 where
  pub in_chain : chain_of p e ≡ Some t
  pub later : line < line_of_op p e
  pub first : (f : ℕ) → chain_of p f ≡ Some t → line < line_of_op p f →
      line_of_op p e ≤ line_of_op p f

pub data IsUnordered (p : Plan) : ℕ → ℕ → Type 0 where
  -- a timeline's operation isn't above the initial value
  too_low : (t e : ℕ) → is_timeline_chain p t ≡ true → chain_of p e ≡ Some t →
      value p e ≤ initial p t → IsUnordered p (line_of_op p e) (line_of_op p e)
  -- two neighbours have equal values
  equal : (t e f : ℕ) → is_timeline_chain p t ≡ true → AreNeighbours p t e f →
      value p e ≡ value p f → IsUnordered p (line_of_op p e) (line_of_op p f)
  -- of two neighbours the first isn't sure for the second's job; the lesser line stands first
  unsure : (t e f j : ℕ) → is_timeline_chain p t ≡ true → AreNeighbours p t e f →
      job_of p f ≡ Some j → ¬ IsSure p e j → line_of_op p e ≤ line_of_op p f →
      IsUnordered p (line_of_op p e) (line_of_op p f)
  unsure_back : (t e f j : ℕ) → is_timeline_chain p t ≡ true → AreNeighbours p t e f →
      job_of p f ≡ Some j → ¬ IsSure p e j → line_of_op p f < line_of_op p e →
      IsUnordered p (line_of_op p f) (line_of_op p e)
  -- The job of a binary wait is neither that of the next signal nor before it, so the semaphore
  -- might still be signaled then. (Vulkan 1.3, vkQueueSubmit: a binary semaphore is unsignaled when
  -- a signal of it executes)
  unawaited : (n : Need) (e i j place : ℕ) → slice_get (needs p i) place ≡ Some n →
      kind_of p.script n.chain ≡ Some Binary → IsNextSignal p n.chain n.line e →
      job_of p e ≡ Some j → i ≢ j → ¬ HappensBefore p i j → IsUnordered p n.line (line_of_op p e)

-- whether a job of a script names a fence, and whether it resets it
abbrev pub names_at : Script → ℕ → ℕ → Bool
names_at s fence j = option_map_or (names_fence fence) (slice_get s.jobs j) false

abbrev pub resets_at : Script → ℕ → ℕ → Bool
resets_at s fence j = option_map_or (resets_fence fence) (slice_get s.jobs j) false

-- A job's reset of a fence is effective: an earlier job named the fence, and no job between names
-- or resets it.
pub record IsEffectiveReset (s : Script) (fence naming job : ℕ) : Type 0 where
  pub earlier : naming < job
  pub names : names_at s fence naming ≡ true
  pub resets : resets_at s fence job ≡ true
  pub between : (k : ℕ) → naming < k → k < job →
      (names_at s fence k ≡ false) × (resets_at s fence k ≡ false)

-- An effective reset of a fence whose last naming isn't sure to be signaled.
-- (Vulkan 1.3, vkResetFences: each fence is not used by a batch that is still pending)
pub record IsFenceBusyAt (p : Plan) (line : ℕ) : Type 0 where
  pub job : ℕ
  pub fence : ℕ
  pub naming : ℕ
  pub effective : IsEffectiveReset p.script fence naming job
  pub op : ℕ
  pub in_chain : chain_of p op ≡ Some fence
  pub of_job : job_of p op ≡ Some naming
  pub unsure : ¬ IsSure p op job
  pub named : line ≡ line_of_job p job

-- whether a lane is that of an immediate queue
abbrev pub is_immediate_lane : Plan → Lane → Bool
is_immediate_lane p HostLane = false
is_immediate_lane p (QueueLane q) =
    option_map_or (λ x. is_immediate x.mode) (slice_get p.script.queues q) false

-- whether a job is a batch of an immediate queue
abbrev pub is_immediate_batch : Plan → ℕ → Bool
is_immediate_batch p j = of_job (λ x. is_immediate_lane p x.lane) false p j

-- A batch of an immediate queue waits for a signal that is not sure to be pending when it is
-- submitted. That such a queue can't hold back a batch is the project's own.
pub record IsNotPendingAt (p : Plan) (line : ℕ) : Type 0 where
  pub job : ℕ
  pub immediate : is_immediate_batch p job ≡ true
  pub need : Need
  pub place : ℕ
  pub of_job : slice_get (needs p job) place ≡ Some need
  pub above : initial p need.chain < need.value
  pub op : ℕ
  pub resolver : resolver p need.chain need.value ≡ Some op
  pub signaler : ℕ
  pub of_op : job_of p op ≡ Some signaler
  pub late : (signaler < job)
      × ((is_host_step p signaler || is_immediate_batch p signaler) ≡ true) → ⊥
  pub unsure : (h : ℕ) → h < job → is_host_step p h ≡ true → ¬ IsSure p op h
  pub named : line ≡ need.line

-- the lines of two commands that race, the lesser first
pub record IsRaceAt (p : Plan) (a b : ℕ) : Type 0 where
  pub first : ℕ
  pub second : ℕ
  pub race : IsRace p first second
  pub in_order : line_of_command p first ≤ line_of_command p second
  pub first_line : a ≡ line_of_command p first
  pub second_line : b ≡ line_of_command p second

abbrev pub NoLine : (ℕ → Type 0) → Type 0
NoLine P = (n : ℕ) → ¬ P n

abbrev pub NoLines : (ℕ → ℕ → Type 0) → Type 0
NoLines P = (a b : ℕ) → ¬ P a b

-- A lawful plan: no row of faults holds. By the rows its commands are ordered and its timelines
-- rise; its binary semaphores and fences rise by the refusals of lowering too (`HasSureOrder`).
pub record IsLawful (p : Plan) : Type 0 where
  pub reachable : left_over p ≡ []
  pub ordered : NoLines (IsUnordered p)
  pub resettable : NoLine (IsFenceBusyAt p)
  pub pending : NoLine (IsNotPendingAt p)
  pub race_free : NoLines (IsRaceAt p)

-- The first fault of a plan: the faults are decided in the order of the rows, and the least line, or
-- the least pair of lines, is named. Want of memory is no fault of the plan.
abbrev pub IsFirstPlanFault : Plan → OrderFault → Type 0
IsFirstPlanFault p (Unreachable n) = IsLeast (IsUnreachableAt p) n
IsFirstPlanFault p (Unordered a b) = (left_over p ≡ []) × IsLeastPair (IsUnordered p) a b
IsFirstPlanFault p (FenceBusy n) = (left_over p ≡ []) × NoLines (IsUnordered p)
    × IsLeast (IsFenceBusyAt p) n
IsFirstPlanFault p (NotPending n) =
    (left_over p ≡ []) × NoLines (IsUnordered p) × NoLine (IsFenceBusyAt p)
    × IsLeast (IsNotPendingAt p) n
IsFirstPlanFault p (Race a b) =
    (left_over p ≡ [])
    × NoLines (IsUnordered p)
    × NoLine (IsFenceBusyAt p)
    × NoLine (IsNotPendingAt p)
    × IsLeastPair (IsRaceAt p) a b
IsFirstPlanFault p Memory = ⊥
