-- The plan of the test of the turn: four batches on four queues, each with three commands.
use Rattle.std.specs.Prelude.{[], ◌∷◌, ◌≡◌, length}
use Rattle.vq_model.specs.Plan.{Plan}
use Rattle.vq_board.specs.declared.parts.Board.{Board}
use Rattle.vq_board.specs.declared.parts.Pass.{Pass}
use Rattle.vq_board_stage.specs.Batches.{IsAlone, IsReady}

pub record AreFour (p : Plan) : Type 0 where
  pub jobs : length p.jobs ≡ 4
  pub first : IsAlone p 0 (0 ∷ 1 ∷ 2 ∷ [])
  pub second : IsAlone p 1 (3 ∷ 4 ∷ 5 ∷ [])
  pub third : IsAlone p 2 (6 ∷ 7 ∷ 8 ∷ [])
  pub fourth : IsAlone p 3 (9 ∷ 10 ∷ 11 ∷ [])

-- the passes of the four rings, which are to run them
pub record AreReady (b : Board) (xs : (Pass × Pass) × (Pass × Pass)) : Type 0 where
  pub first : IsReady b xs.0.0 0 (0 ∷ 1 ∷ 2 ∷ [])
  pub second : IsReady b xs.0.1 1 (3 ∷ 4 ∷ 5 ∷ [])
  pub third : IsReady b xs.1.0 2 (6 ∷ 7 ∷ 8 ∷ [])
  pub fourth : IsReady b xs.1.1 3 (9 ∷ 10 ∷ 11 ∷ [])
