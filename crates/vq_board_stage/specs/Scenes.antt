-- The plans of the tests' scripts.
use Rattle.vq_model.specs.Plan.{Plan}
use Rattle.vq_board_stage.specs.declared.scenes.Scene.{Scene}
use Rattle.vq_board_stage.specs.declared.scenes.Scene.TheVariants.{Contending, Signaling, Reading, Waiting}
use Rattle.vq_board_stage.specs.FourBatches.{AreFour}
use Rattle.vq_board_stage.specs.ThreeSignals.{IsOfThreeSignals}
use Rattle.vq_board_stage.specs.Reads.{IsOfReads}
use Rattle.vq_board_stage.specs.TwoWaits.{IsOfTwoWaits}

abbrev pub IsPlanOf : Scene → Plan → Type 0
IsPlanOf Contending p = AreFour p
IsPlanOf Signaling p = IsOfThreeSignals p
IsPlanOf Reading p = IsOfReads p
IsPlanOf Waiting p = IsOfTwoWaits p
