use Rattle.vq_live.proofs.Runs.{opened_keeps, run_keeps}
use Rattle.vq_live.proofs.laws.runs_keep_the_law.Goals as goal

pub returns-clause-opening : goal.returns-clause-opening
returns-clause-opening c = opened_keeps

pub returns-clause-runs : goal.returns-clause-runs
returns-clause-runs c = run_keeps
