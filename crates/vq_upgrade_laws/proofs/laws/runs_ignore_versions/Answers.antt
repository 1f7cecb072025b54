use Rattle.vq_model.specs.Machine.{opening_state}
use Rattle.vq_upgrade_laws.proofs.SameMachine.{same_run}
use Rattle.vq_upgrade_laws.proofs.SameOutputs.{same_output}
use Rattle.vq_upgrade_laws.proofs.SameRuns.{same_after}
use Rattle.vq_upgrade_laws.proofs.laws.runs_ignore_versions.Goals as goal

pub returns-clause-runs : goal.returns-clause-runs
returns-clause-runs c v p steps = (
  same_run v p.script.version p (opening_state p) steps,
  same_run p.script.version v p (opening_state p) steps,
)

pub returns-clause-states : goal.returns-clause-states
returns-clause-states c v p steps = same_after v p.script.version p (opening_state p) steps

pub returns-clause-outputs : goal.returns-clause-outputs
returns-clause-outputs c v p text = (same_output v p.script.version p text, same_output p.script.version v p text)
