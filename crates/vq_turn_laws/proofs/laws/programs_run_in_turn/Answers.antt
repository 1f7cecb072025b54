use Rattle.vq_turn_laws.proofs.RunOrder.{run_in_turn}
use Rattle.vq_turn_laws.proofs.laws.programs_run_in_turn.Goals as goal

pub returns : goal.returns
returns c = run_in_turn
