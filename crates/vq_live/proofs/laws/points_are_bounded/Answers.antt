use Rattle.vq_live.proofs.Uses.{points_bounded}
use Rattle.vq_live.proofs.laws.points_are_bounded.Goals as goal

pub returns : goal.returns
returns c = points_bounded
