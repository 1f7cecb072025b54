use Rattle.vq_history_laws.proofs.Measure.{history_reaches}
use Rattle.vq_history_laws.proofs.laws.histories_keep_facts.Goals as goal

pub returns : goal.returns
returns c p events h = (history_reaches p events h).facts
