use Rattle.vq_live.proofs.Uses.{given_when_left}
use Rattle.vq_live.proofs.laws.points_are_given_when_left.Goals as goal

pub returns : goal.returns
returns c = given_when_left
