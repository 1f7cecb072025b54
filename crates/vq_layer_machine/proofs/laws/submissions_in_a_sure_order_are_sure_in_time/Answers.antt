use Rattle.vq_model.specs.Lowering.{plan_of}
use Rattle.vq_layer_machine.specs.Scripts.{script_of}
use Rattle.vq_layer_machine.proofs.Submitted.{submitted_formed}
use Rattle.vq_layer_machine.proofs.laws.submissions_in_a_sure_order_are_sure_in_time.Goals as goal

pub returns : goal.returns
returns c w tale m fits sure =
    c.sure_in_time.ensures.ordered (plan_of (script_of w tale)) (submitted_formed w tale m fits) sure
