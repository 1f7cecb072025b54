use Rattle.vq_point_laws.specs.Points.{opening_points}
use Rattle.vq_history_laws.proofs.Longer.{history_push, world_push}
use Rattle.vq_history_laws.proofs.laws.histories_go_on.Goals as goal

pub returns-clause-history : goal.returns-clause-history
returns-clause-history c p events h x can = history_push p (opening_points p) events x h can

pub returns-clause-world : goal.returns-clause-world
returns-clause-world c p events x = world_push p (opening_points p) events x
