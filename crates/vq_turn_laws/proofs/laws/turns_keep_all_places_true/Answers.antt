use Rattle.vq_history_laws.specs.Histories.{points_after}
use Rattle.vq_turn_laws.proofs.AllPlaces.{all_true}
use Rattle.vq_turn_laws.proofs.Orderly.{plan_orderly}
use Rattle.vq_turn_laws.proofs.Reached.{reached}
use Rattle.vq_turn_laws.proofs.laws.turns_keep_all_places_true.Goals as goal

pub returns : goal.returns
returns c p i l events h places all a first =
    let o = plan_orderly p i l in
    all_true p o (points_after p events) (reached p o events h) places all a first
