use Rattle.vq_live.proofs.Runs.{past_stays}
use Rattle.vq_live.proofs.laws.past_stays_past.Goals as goal

pub returns : goal.returns
returns c = past_stays
