use Rattle.vq_model.specs.Machine.{opening_state}
use Rattle.vq_run_laws.proofs.ProgressRuns.{run_progresses}
use Rattle.vq_run_laws.proofs.laws.runs_progress.Goals as goal

pub returns-clause-run : goal.returns-clause-run
returns-clause-run c p steps run = (run_progresses p (opening_state p) steps run).run

pub returns-clause-leads : goal.returns-clause-leads
returns-clause-leads c p steps run = (run_progresses p (opening_state p) steps run).leads
