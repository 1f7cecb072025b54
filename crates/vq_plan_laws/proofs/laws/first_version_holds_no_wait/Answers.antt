use Rattle.vq_plan_laws.proofs.UnheldWaits.{first_version_unheld}
use Rattle.vq_plan_laws.proofs.laws.first_version_holds_no_wait.Goals as goal

pub returns : goal.returns
returns c = first_version_unheld
