use Rattle.vq_turn_laws.proofs.WholeTurns.{opening_true}
use Rattle.vq_turn_laws.proofs.laws.first_places_are_true.Goals as goal

pub returns : goal.returns
returns c = opening_true
