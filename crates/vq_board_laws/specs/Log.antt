-- The log of commands, and the turn over the buffers. This project's own.
use Rattle.std.specs.Prelude.{ℕ, suc, List, [], ◌∷◌, ◌≡◌, ◌<◌, ◌≤◌, length, Option, Some}
use mathlib.Core.Option.{some}
use mathlib.Core.Option as maybe
use Rattle.vq_model.specs.Memory.{Memory}
use Rattle.vq_model.specs.Plan.{Plan}
use Rattle.vq_model.specs.SlowRun.{bytes_after}
use Rattle.vq_board_laws.specs.declared.view.View.{View}
use Rattle.vq_board_laws.specs.declared.view.LoggedBuffers.{LoggedBuffers}
use Rattle.vq_board_laws.specs.Knowledge.{Each}

-- A pass that has the turn knows how many places of the log are filled, and what is in the buffers:
-- what the commands of the log leave there. The turn names the job that it runs.
pub record Holding (p : Plan) (turn : ℕ) (log : List ℕ) (runs held : Option ℕ) (bytes : Memory)
    : Type 0 where
  pub counted : (n : ℕ) → held ≡ Some n → n ≡ length log
  pub folded : (n : ℕ) → held ≡ Some n → bytes ≡ bytes_after p log
  pub job : (n : ℕ) → held ≡ Some n → (j : ℕ) × (runs ≡ Some j) × (turn ≡ suc j)
  pub own : (j : ℕ) → runs ≡ Some j → turn ≡ suc j → (n : ℕ) × (held ≡ Some n)

-- the buffers are in their slot, and hold what the commands of the log leave
pub record AtHome (p : Plan) (log : List ℕ) (homes : List (maybe.Option LoggedBuffers)) : Type 0 where
  pub value : LoggedBuffers
  pub home : homes ≡ some value ∷ []
  pub filled : value.filled ≡ length log
  pub bytes : value.buffers ≡ bytes_after p log

pub record Log (p : Plan) (job place : ℕ → ℕ) (turn : ℕ) (log : List ℕ)
    (homes : List (maybe.Option LoggedBuffers)) (views : List View) : Type 0 where
  -- the filled places are the first ones
  pub later : (i : ℕ) → length log ≤ i → place i ≡ 0
  pub free : turn ≡ 0 → AtHome p log homes
  -- a turn that is taken names a job that is started and not finished
  pub taken : (j : ℕ) → turn ≡ suc j → (job j ≡ 3) × (j < length p.jobs)
  pub holding : Each (λ i v. Holding p turn log v.runs v.held v.bytes) views
