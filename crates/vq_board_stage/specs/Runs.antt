-- What a look tells of the machine. This project's own.
use Rattle.std.specs.Prelude.{ℕ, List, ◌≡◌, true}
use Rattle.vq_model.specs.Machine.{Step, Run, state_after}
use Rattle.vq_model.specs.Plan.{Plan}

-- a run of the machine has made the operation
pub record IsMadeByARun (p : Plan) (e : ℕ) : Type 0 where
  pub steps : List Step
  pub run : Run p steps
  pub made : (state_after p steps).progress.made e ≡ true
