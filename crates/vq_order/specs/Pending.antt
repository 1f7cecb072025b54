-- Waits of immediate batches whose signals may come late, each by its line twice.
-- That an immediate queue can't hold back a batch is this project's own.
use Rattle.std.specs.Prelude.{ℕ, ◌≡◌, ◌<◌, ◌||◌, true, Some}
use Rattle.vq_model.specs.declared.plan.Need.{Need}
use Rattle.vq_model.specs.Checks.{is_immediate_batch}
use Rattle.vq_model.specs.Plan.{Plan, initial, is_host_step, job_of, resolver}
use Rattle.vq_model.specs.Sure.{IsSure}
use Rattle.vq_order.specs.LeastLines.{IsOfNeeds}

-- an operation is sure for a host step that is written before a job
pub record IsSureBefore (p : Plan) (op j : ℕ) : Type 0 where
  pub step : ℕ
  pub before : step < j
  pub is_host : is_host_step p step ≡ true
  pub sure : IsSure p op step

-- a job is a host step or an immediate batch, and written before another
abbrev pub IsMadeBefore : Plan → ℕ → ℕ → Type 0
IsMadeBefore p i j = (i < j) × ((is_host_step p i || is_immediate_batch p i) ≡ true)

-- An operation may come late for a job: it is not of a host step or an immediate batch that is
-- written before it, and not sure for a host step before it.
pub record MayComeLate (p : Plan) (op j : ℕ) : Type 0 where
  pub signaler : ℕ
  pub of_op : job_of p op ≡ Some signaler
  pub late : ¬ IsMadeBefore p signaler j
  pub unsure : ¬ IsSureBefore p op j

-- a need is above the initial value, and what resolves it may come late
pub record IsAhead (p : Plan) (j : ℕ) (n : Need) (a b : ℕ) : Type 0 where
  pub above : initial p n.chain < n.value
  pub op : ℕ
  pub resolved_by : resolver p n.chain n.value ≡ Some op
  pub late : MayComeLate p op j
  pub first : a ≡ n.line
  pub second : b ≡ n.line

-- in a batch of an immediate queue
abbrev pub IsAheadIn : Plan → ℕ → ℕ → ℕ → Type 0
IsAheadIn p j a b = (is_immediate_batch p j ≡ true) × IsOfNeeds p (IsAhead p j) j a b
