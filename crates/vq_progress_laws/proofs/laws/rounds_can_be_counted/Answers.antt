use Rattle.vq_progress_laws.proofs.FewTurns.{few_acts, few_turns}
use Rattle.vq_progress_laws.proofs.laws.rounds_can_be_counted.Goals as goal

pub returns-clause-acts : goal.returns-clause-acts
returns-clause-acts c = few_acts

pub returns-clause-turns : goal.returns-clause-turns
returns-clause-turns c = few_turns
