use Rattle.vq_history_laws.specs.Histories.{points_after}
use Rattle.vq_turn_laws.proofs.Orderly.{plan_orderly}
use Rattle.vq_turn_laws.proofs.Reached.{reached}
use Rattle.vq_turn_laws.proofs.TurnLaws.{does_true}
use Rattle.vq_turn_laws.proofs.WholeTurns.{turn_true}
use Rattle.vq_turn_laws.proofs.laws.turns_keep_places_true.Goals as goal

pub returns-clause-task : goal.returns-clause-task
returns-clause-task c p i l events h a x s t n =
    let o = plan_orderly p i l in
    does_true p o (points_after p events) (reached p o events h) a x s t n

pub returns-clause-turn : goal.returns-clause-turn
returns-clause-turn c p i l events h a x s =
    let o = plan_orderly p i l in
    turn_true p o (points_after p events) (reached p o events h) a x s
