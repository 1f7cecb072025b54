use Rattle.std.proofs.Common.{sym, subst}
use Rattle.vq_point_laws.specs.Points.{PointState}
use Rattle.vq_turns.specs.Turns.{plays}
use Rattle.vq_turn_laws.specs.Scenes.{HasPlayed}
use Rattle.vq_turn_laws.proofs.Orderly.{plan_orderly}
use Rattle.vq_turn_laws.proofs.Reached.{Reached, reached}
use Rattle.vq_turn_laws.proofs.SceneLaws.{first_scene_true, plays_true, schedule_history}
use Rattle.vq_turn_laws.proofs.laws.schedules_make_histories.Goals as goal

pub returns-clause-opening : goal.returns-clause-opening
returns-clause-opening c = first_scene_true

pub returns-clause-turn : goal.returns-clause-turn
returns-clause-turn c p i l events h s at all a player =
    let o = plan_orderly p i l in
    subst (λ (w : PointState). HasPlayed p w (plays p s a).0 (plays p s a).1) at
    (plays_true p o s (subst (Reached p) (sym at) (reached p o events h)) all a player).0

pub returns-clause-history : goal.returns-clause-history
returns-clause-history c p i l turns players = schedule_history p (plan_orderly p i l) turns players
