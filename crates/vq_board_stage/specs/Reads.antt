-- The plan of the test of answers: the host reads a timeline, signals it and reads it again.
use Rattle.std.specs.Prelude.{◌≡◌, length}
use Rattle.vq_model.specs.Plan.{Plan, initial, value}
use Rattle.vq_board_stage.specs.HostSteps.{HasRead, HasSignal, AreSingle}

pub record IsOfReads (p : Plan) : Type 0 where
  pub count : length p.jobs ≡ 3
  pub first : HasRead p 0 0
  pub signal : HasSignal p 1 0
  pub last : HasRead p 2 0
  pub ops : length p.ops ≡ 1
  pub its_value : value p 0 ≡ 1
  pub begins : initial p 0 ≡ 0
  pub single : AreSingle p
