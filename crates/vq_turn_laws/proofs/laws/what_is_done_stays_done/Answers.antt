use Rattle.vq_history_laws.specs.Histories.{points_after}
use Rattle.vq_turn_laws.proofs.Orderly.{plan_orderly}
use Rattle.vq_turn_laws.proofs.PlaceLaws.{stays_done}
use Rattle.vq_turn_laws.proofs.Reached.{reached, reached_rises}
use Rattle.vq_turn_laws.proofs.laws.what_is_done_stays_done.Goals as goal

pub returns : goal.returns
returns c p i l events h x can t d =
    let o = plan_orderly p i l in
    stays_done p (points_after p events) x (reached_rises p o (points_after p events) (reached p o events h) x can) t d
