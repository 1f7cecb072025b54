use Rattle.vq_point_laws.proofs.PointHistories.{keeps_point_law}
use Rattle.vq_point_laws.proofs.laws.points_in_turn.Goals as goal

pub returns : goal.returns
returns c p events h = keeps_point_law p events h
