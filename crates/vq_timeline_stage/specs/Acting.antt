-- What the passes of the tests have done between their steps.
use Rattle.std.specs.Prelude.{ℕ, List, [], ◌∷◌, ◌≡◌, Some, None}
use Rattle.vq_board_laws.specs.declared.view.Fact.TheVariants.{Job}
use Rattle.vq_board_laws.specs.declared.view.JobState.TheVariants.{Finished}
use Rattle.vq_board_laws.specs.declared.view.Role.TheVariants.{Ring}
use Rattle.vq_board_laws.specs.Knowledge.{Knows}
use Rattle.vq_board_laws.specs.Roles.{role_number}
use Rattle.vq_board.specs.declared.parts.Board.{Board}
use Rattle.vq_board.specs.declared.parts.Pass.{Pass}
use Rattle.vq_board.specs.Named.{plan_of, view, IsOf}

-- the ring has run these jobs, of which the last one stands first, and runs none now
pub record HasRun (b : Board) (x : Pass) (jobs : List ℕ) : Type 0 where
  pub board : IsOf b x
  pub role : (view x).role ≡ role_number (plan_of b) (Ring 0)
  pub idle : (view x).runs ≡ None
  pub begun : (view x).begun ≡ jobs
  pub turnless : (view x).held ≡ None
  pub without_reference : (view x).refs ≡ []

-- and knows that the first job is finished
pub record HasRunFirst (b : Board) (x : Pass) : Type 0 where
  pub run : HasRun b x (0 ∷ [])
  pub known : Knows (view x).known (Job 0 Finished)

-- the ring runs this job, whose signal isn't made
pub record IsToSignal (b : Board) (x : Pass) (j : ℕ) (jobs : List ℕ) : Type 0 where
  pub board : IsOf b x
  pub role : (view x).role ≡ role_number (plan_of b) (Ring 0)
  pub runs : (view x).runs ≡ Some j
  pub begun : (view x).begun ≡ jobs
  pub entered : (view x).entered ≡ 0
  pub signaled : (view x).signaled ≡ 0
  pub turnless : (view x).held ≡ None
  pub without_reference : (view x).refs ≡ []
