use Rattle.vq_history_laws.proofs.Measure.{history_bounded}
use Rattle.vq_history_laws.proofs.laws.histories_are_bounded.Goals as goal

pub returns : goal.returns
returns c = history_bounded
