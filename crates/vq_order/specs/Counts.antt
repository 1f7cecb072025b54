-- The first operations of a chain, those of which something holds, and the value after them.
use Rattle.std.specs.Prelude.{ℕ, ◌≡◌, ◌≢◌, ◌<◌, ◌≤◌, ◌-◌, ◌==◌, if◌then◌else◌}
use Rattle.std.specs.Prelude.{List, length, get_or, Some}
use Rattle.vq_model.specs.HappensBefore.{HappensBefore}
use Rattle.vq_model.specs.Plan.{Plan, chain, initial, value, job_of}

-- something holds of so many numbers of a list, the first ones, and of no others
pub record AreFirst (S : ℕ → Type 0) (xs : List ℕ) (n : ℕ) : Type 0 where
  pub within : n ≤ length xs
  pub below : (k : ℕ) → k < n → S (get_or xs k 0)
  pub above : (k : ℕ) → n ≤ k → k < length xs → ¬ S (get_or xs k 0)

-- the value of a chain after its first operations
abbrev pub value_after : Plan → ℕ → ℕ → ℕ
value_after p t n =
    if n == 0 then initial p t else value p (get_or (chain p t) (n - 1) 0)

-- an operation of a job that isn't this one and doesn't come after it
pub record MayBeMade (p : Plan) (j e : ℕ) : Type 0 where
  pub job : ℕ
  pub of_job : job_of p e ≡ Some job
  pub other : job ≢ j
  pub not_after : ¬ HappensBefore p j job
