use Rattle.vq_history_laws.specs.Histories.{points_after}
use Rattle.vq_turn_laws.proofs.Orderly.{plan_orderly}
use Rattle.vq_turn_laws.proofs.Reached.{reached, reached_rises}
use Rattle.vq_turn_laws.proofs.laws.worlds_keep.Goals as goal

pub returns-clause-made : goal.returns-clause-made
returns-clause-made c p i l events h = (reached p (plan_orderly p i l) events h).made

pub returns-clause-in_turn : goal.returns-clause-in_turn
returns-clause-in_turn c p i l events h = (reached p (plan_orderly p i l) events h).in_turn

pub returns-clause-starts : goal.returns-clause-starts
returns-clause-starts c p i l events h = (reached p (plan_orderly p i l) events h).starts

pub returns-clause-rises : goal.returns-clause-rises
returns-clause-rises c p i l events h x can =
    let o = plan_orderly p i l in
    reached_rises p o (points_after p events) (reached p o events h) x can
