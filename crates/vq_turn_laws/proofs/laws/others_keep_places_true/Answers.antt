use Rattle.vq_history_laws.specs.Histories.{points_after}
use Rattle.vq_turn_laws.proofs.Orderly.{plan_orderly}
use Rattle.vq_turn_laws.proofs.Reached.{reached}
use Rattle.vq_turn_laws.proofs.WholeTurns.{others_true}
use Rattle.vq_turn_laws.proofs.laws.others_keep_places_true.Goals as goal

pub returns : goal.returns
returns c p i l events h a b first second two x s e can own =
    let o = plan_orderly p i l in
    others_true p o (points_after p events) (reached p o events h) a b first second two x s e can own
