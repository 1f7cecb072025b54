-- The plan of the tests: two batches of one queue, each of which signals the same timeline.
use Rattle.std.specs.Prelude.{[], ◌∷◌, ◌≡◌, Some, None, length}
use Rattle.vq_model.specs.Plan.{Plan, previous, needs, chain, initial, resolver}
use Rattle.vq_board_laws.specs.declared.view.Role.TheVariants.{Submit}
use Rattle.vq_board_stage.specs.ThreeSignals.{HasBatch, IsSignal}

pub record HasSignals (p : Plan) : Type 0 where
  pub count : length p.ops ≡ 2
  pub first : IsSignal p 0 0 0
  pub second : IsSignal p 1 0 1
  pub its_chain : chain p 0 ≡ 0 ∷ 1 ∷ []
  pub alone : length p.chains ≡ 1
  pub opening : initial p 0 ≡ 0
  pub resolves_two : resolver p 0 2 ≡ Some 0
  pub resolves_three : resolver p 0 3 ≡ Some 1

pub record IsOfTwoBatches (p : Plan) : Type 0 where
  pub first : HasBatch p 0 0 (Submit 0) [] (0 ∷ [])
  pub second : HasBatch p 1 0 (Submit 0) [] (1 ∷ [])
  pub begins : previous p 0 ≡ None
  pub follows : previous p 1 ≡ Some 0
  pub first_needs : needs p 0 ≡ []
  pub second_needs : needs p 1 ≡ []
  pub signals : HasSignals p
