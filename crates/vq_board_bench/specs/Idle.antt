-- Passes that run batches with nothing to do. This project's own.
use Rattle.std.specs.Prelude.{ℕ, Bool, [], ◌∷◌, ◌≡◌, ◌<◌, None, Some, true, false, length}
use Rattle.vq_model.specs.Plan.{Plan, chain_of}
use Rattle.vq_board_laws.specs.declared.view.Role.TheVariants.{Ring}
use Rattle.vq_board_laws.specs.Roles.{role_number}
use Rattle.vq_board_laws.specs.Points.{reference}
use Rattle.vq_board.specs.declared.parts.Board.{Board}
use Rattle.vq_board.specs.declared.parts.Pass.{Pass}
use Rattle.vq_board.specs.Named.{plan_of, view, IsOf}
use Rattle.vq_board_stage.specs.Batches.{IsAlone}
use Rattle.vq_board_bench.specs.Making.{HasShare}

-- the first job does nothing, and the first operation is one of the first chain
pub record IsOfWorker (p : Plan) : Type 0 where
  pub first : IsAlone p 0 []
  pub exists : 0 < length p.ops
  pub in_chain : chain_of p 0 ≡ Some 0
  pub share : HasShare p 0 1

-- the pass of a queue's ring runs a job, and has not the turn
pub record IsWorker (b : Board) (x : Pass) : Type 0 where
  pub board : IsOf b x
  pub jobs : 0 < length (plan_of b).jobs
  pub ops : 0 < length (plan_of b).ops
  pub queue : ℕ
  pub ring : (view x).role ≡ role_number (plan_of b) (Ring queue)
  pub job : ℕ
  pub runs : (view x).runs ≡ Some job
  pub turnless : (view x).held ≡ None

-- it has no reference, or one to the first point with the first operation
pub record IsReferring (b : Board) (x : Pass) (holds : Bool) : Type 0 where
  pub worker : IsWorker b x
  pub free : holds ≡ false → (view x).refs ≡ []
  pub held : holds ≡ true → (view x).refs ≡ reference 0 0 ∷ []
