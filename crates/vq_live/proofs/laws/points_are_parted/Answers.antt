use Rattle.vq_live.proofs.Parts.{parted}
use Rattle.vq_live.proofs.laws.points_are_parted.Goals as goal

pub returns : goal.returns
returns c = parted
