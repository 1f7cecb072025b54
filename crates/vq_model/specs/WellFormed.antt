-- What each plan of a script keeps.
-- This project's own.
use Rattle.std.specs.Prelude.{ℕ, ◌≡◌, ◌<◌, true, List, [], ◌∷◌, ◌⊎◌, false, length, Some}
use Rattle.std.specs.Prelude.{◌≤◌}
use Rattle.vq_model.specs.declared.script.Command.{Command}
use Rattle.vq_model.specs.Plan.{Plan, value, command_at, needs, waits_for_any, commands_of, signals_of}
use Rattle.vq_ground.specs.Lists.{has, AreRising}
use Rattle.vq_model.specs.Plan.{is_host_step, chain, job_of, chain_of, host_before, question, is_silent}
use Rattle.vq_model.specs.FittingCommands.{Fits}
use Rattle.vq_model.specs.Edges.{must_finish}
use Rattle.vq_model.specs.EdgeReasons.{waits_at_start}

-- operations by value, and those of one value by line
abbrev pub AreInOrder : Plan → List ℕ → Type 0
AreInOrder p [] = Unit {0}
AreInOrder p (e ∷ es) =
    ((f : ℕ) → has es f ≡ true → (value p e < value p f) ⊎ ((value p e ≡ value p f) × (e < f)))
    × AreInOrder p es

-- What the plan of a script keeps: each operation stands in its chain and among its job's signals,
-- and each command is of one job and fits its buffers.
pub record IsWellFormed (p : Plan) : Type 0 where
  pub in_chain : (e t : ℕ) → chain_of p e ≡ Some t → has (chain p t) e ≡ true
  pub of_chain : (e t : ℕ) → has (chain p t) e ≡ true → chain_of p e ≡ Some t
  pub chain_order : (t : ℕ) → AreInOrder p (chain p t)
  pub in_job : (e j : ℕ) → job_of p e ≡ Some j → has (signals_of p j) e ≡ true
  pub of_job : (e j : ℕ) → has (signals_of p j) e ≡ true → job_of p e ≡ Some j
  pub signals : (j : ℕ) → AreRising (signals_of p j)
  pub commands : (j : ℕ) → AreRising (commands_of p j)
  -- what must be finished before a job is written before it
  pub finished_first : (i j : ℕ) → has (must_finish p j) i ≡ true → i < j
  -- a job that waits for any has something to wait for, and is a host step
  pub any_needs : (j : ℕ) → waits_for_any p j ≡ true → 0 < length (needs p j)
  pub waits_for_all : (j : ℕ) → is_host_step p j ≡ false → waits_for_any p j ≡ false
  -- all needs of a host step hold back its start
  pub host_waits : (j : ℕ) → is_host_step p j ≡ true → waits_at_start p j ≡ true
  pub one_job : (c i j : ℕ) → has (commands_of p i) c ≡ true → has (commands_of p j) c ≡ true →
      i ≡ j
  pub fits : (c j : ℕ) → has (commands_of p j) c ≡ true →
      (x : Command) × (command_at p c ≡ Some x) × Fits p.sizes x

-- What every plan keeps of host steps: a question is a host step's, which signals nothing, and the
-- host's steps run one after another.
pub record KeepsHostOrder (p : Plan) : Type 0 where
  pub asks : (j : ℕ) → is_silent (question p j) ≡ false →
      (is_host_step p j ≡ true) × (signals_of p j ≡ [])
  -- only a batch waits for the host step before it
  pub before_batch : (i j : ℕ) → host_before p j ≡ Some i →
      (i < j) × (is_host_step p i ≡ true) × (is_host_step p j ≡ false)
  pub lane : (i j : ℕ) → i < j → is_host_step p i ≡ true → is_host_step p j ≡ true →
      (q : ℕ) × (i ≤ q) × (q < j) × (is_host_step p q ≡ true) × (has (must_finish p j) q ≡ true)
