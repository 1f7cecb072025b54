use Rattle.vq_model.specs.Lowering.{plan_of}
use Rattle.vq_run_laws.proofs.Cited.{one_result}
use Rattle.vq_layer_machine.specs.Scripts.{script_of}
use Rattle.vq_layer_machine.specs.Tales.{steps_of}
use Rattle.vq_layer_machine.proofs.Submitted.{submitted_formed}
use Rattle.vq_layer_machine.proofs.Tellings.{tales_are_runs}
use Rattle.vq_layer_machine.proofs.laws.submissions_in_a_sure_order_have_one_result.Goals as goal

pub returns : goal.returns
returns c w tale m fits sure finished =
    one_result (plan_of (script_of w tale)) (submitted_formed w tale m fits) sure (steps_of w tale) (tales_are_runs w tale m) finished
