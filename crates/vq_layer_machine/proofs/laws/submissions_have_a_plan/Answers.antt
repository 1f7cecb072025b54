use Rattle.vq_layer_machine.proofs.Submitted.{submitted_formed}
use Rattle.vq_layer_machine.proofs.laws.submissions_have_a_plan.Goals as goal

pub returns : goal.returns
returns c = submitted_formed
