-- Signals in no sure order, by where they stand: at a place of a timeline's chain, or behind a wait of
-- a binary semaphore.
-- Vulkan 1.3, "Semaphore Signaling", "Semaphore Waiting". The lines that are named are this project's own.
use Rattle.std.specs.Prelude.{ℕ, ◌≡◌, ◌≢◌, ◌<◌, ◌≤◌, ◌+◌, ◌⊎◌, true, length, min, max}
use Rattle.std.specs.Prelude.{Option, Some, None}
use Rattle.std.specs.List.{slice_index_or}
use Rattle.vq_model.specs.declared.plan.Need.{Need}
use Rattle.vq_model.specs.declared.script.SemaphoreKind.TheVariants.{Binary}
use Rattle.vq_model.specs.Plan.{Plan, chain, initial, value, job_of, line_of_op}
use Rattle.vq_model.specs.Signals.{kind_of}
use Rattle.vq_model.specs.Sure.{IsSure}
use Rattle.vq_model.specs.HappensBefore.{HappensBefore}
use Rattle.vq_model.specs.Checks.{IsNextSignal, is_timeline_chain}
use Rattle.vq_order.specs.LeastLines.{IsOfFirst, IsOfNeeds}

-- Timelines

-- an operation isn't above the initial value of its chain: its line twice
pub record IsTooLow (p : Plan) (t e a b : ℕ) : Type 0 where
  pub low : value p e ≤ initial p t
  pub first : a ≡ line_of_op p e
  pub second : b ≡ line_of_op p e

-- an operation isn't sure for the job of another one
pub record IsUnsureFor (p : Plan) (e f : ℕ) : Type 0 where
  pub job : ℕ
  pub of_job : job_of p f ≡ Some job
  pub unsure : ¬ IsSure p e job

-- two operations have equal values, or the first isn't sure for the second's job: their lines, the
-- lesser first
pub record AreUnordered (p : Plan) (e f a b : ℕ) : Type 0 where
  pub apart : (value p e ≡ value p f) ⊎ IsUnsureFor p e f
  pub first : a ≡ min (line_of_op p e) (line_of_op p f)
  pub second : b ≡ max (line_of_op p e) (line_of_op p f)

-- an operation of a chain
abbrev pub op_in : Plan → ℕ → ℕ → ℕ
op_in p t k = slice_index_or (chain p t) k 0

-- an operation of a chain and the next one
abbrev pub IsUnorderedNext : Plan → ℕ → ℕ → ℕ → ℕ → Type 0
IsUnorderedNext p t k a b =
    (k + 1 < length (chain p t)) × AreUnordered p (op_in p t k) (op_in p t (k + 1)) a b

-- at a place of a chain
abbrev pub IsUnorderedAt : Plan → ℕ → ℕ → ℕ → ℕ → Type 0
IsUnorderedAt p t k a b = IsTooLow p t (op_in p t k) a b ⊎ IsUnorderedNext p t k a b

-- in the chain of a timeline
abbrev pub IsUnorderedIn : Plan → ℕ → ℕ → ℕ → Type 0
IsUnorderedIn p t a b =
    (is_timeline_chain p t ≡ true) × IsOfFirst (IsUnorderedAt p t) (length (chain p t)) a b

-- Waits of binary semaphores

-- a signal isn't of the wait's job, and that job isn't before it: the lines of the wait and of the
-- signal
pub record IsOvertakenBy (p : Plan) (i line e a b : ℕ) : Type 0 where
  pub job : ℕ
  pub of_job : job_of p e ≡ Some job
  pub other : i ≢ job
  pub not_before : ¬ HappensBefore p i job
  pub first : a ≡ line
  pub second : b ≡ line_of_op p e

-- the next signal of a binary semaphore, if one is written after a line
abbrev pub IsNextOrNone : Plan → ℕ → ℕ → Option ℕ → Type 0
IsNextOrNone p t line None = (e : ℕ) → ¬ IsNextSignal p t line e
IsNextOrNone p t line (Some e) = IsNextSignal p t line e

-- a wait of a binary semaphore may be overtaken by the next signal
pub record IsOvertaken (p : Plan) (i : ℕ) (n : Need) (a b : ℕ) : Type 0 where
  pub binary : kind_of p.script n.chain ≡ Some Binary
  pub op : ℕ
  pub next : IsNextSignal p n.chain n.line op
  pub by_op : IsOvertakenBy p i n.line op a b

-- a wait of a job
abbrev pub IsOvertakenIn : Plan → ℕ → ℕ → ℕ → Type 0
IsOvertakenIn p i a b = IsOfNeeds p (IsOvertaken p i) i a b
