-- What the laws on runs need of a plan: chains that rise in an order which the plan makes sure, and no race. Vulkan
-- 1.3, "Semaphore Signaling", "Execution and Memory Dependencies".
use Rattle.std.specs.Prelude.{ℕ, ◌≡◌, Some, ◌<◌, List, [], ◌∷◌, true, ◌≢◌, ◌⊎◌}
use Rattle.vq_model.specs.Plan.{Plan, job_of, value, chain, initial, commands_of}
use Rattle.vq_model.specs.Sure.{IsSure}
use Rattle.vq_ground.specs.Lists.{has}
use Rattle.vq_model.specs.HappensBefore.{HappensBeforeCommand}
use Rattle.vq_model.specs.SlowRun.{left_over}
use Rattle.vq_model.specs.Races.{conflicts}

-- an operation is sure for the job of another
abbrev pub IsSureForJobOf : Plan → ℕ → ℕ → Type 0
IsSureForJobOf p e f = (j : ℕ) × (job_of p f ≡ Some j) × IsSure p e j

-- from an operation on, the values of a chain rise, and each operation is sure for the job of the
-- next
abbrev pub KeepsRising : Plan → ℕ → List ℕ → Type 0
KeepsRising p e [] = Unit {0}
KeepsRising p e (f ∷ fs) = (value p e < value p f) × IsSureForJobOf p e f × KeepsRising p f fs

-- The values of a chain rise from its initial value on, in an order that the plan makes sure.
-- (Vulkan 1.3, "Semaphore Signaling": a signal's value is greater than the payload when it
-- executes)
abbrev pub RisesFrom : Plan → ℕ → List ℕ → Type 0
RisesFrom p n [] = Unit {0}
RisesFrom p n (e ∷ es) = (n < value p e) × KeepsRising p e es

abbrev pub KeepsChains : Plan → Type 0
KeepsChains p = (t : ℕ) → RisesFrom p (initial p t) (chain p t)

-- conflicting commands of two jobs are ordered
abbrev pub HasNoRace : Plan → Type 0
HasNoRace p = (c d i j : ℕ) → has (commands_of p i) c ≡ true → has (commands_of p j) d ≡ true →
    i ≢ j → conflicts p c d ≡ true → HappensBeforeCommand p i j d ⊎ HappensBeforeCommand p j i c

-- What the laws on runs need of a plan: the slow run does each job, chains rise in a sure order,
-- and there is no race.
pub record HasSureOrder (p : Plan) : Type 0 where
  pub reachable : left_over p ≡ []
  pub chains : KeepsChains p
  pub no_race : HasNoRace p
