use Rattle.vq_live.proofs.Runs.{run_rises}
use Rattle.vq_live.proofs.laws.payload_never_falls.Goals as goal

pub returns : goal.returns
returns c = run_rises
