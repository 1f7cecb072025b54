-- Sets of stages that have all of them, or none.
use Rattle.std.specs.Prelude.{Bool, true, false}
use Rattle.vq_capture.specs.declared.stage.StageMask.{StageMask}
use Rattle.vq_capture.specs.Masks.{all_stages, no_stage}

-- a set of all stages, or of none
abbrev pub uniform_mask : Bool → StageMask
uniform_mask true = all_stages
uniform_mask false = no_stage
