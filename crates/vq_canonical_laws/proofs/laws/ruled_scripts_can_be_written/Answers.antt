use Rattle.vq_canonical_laws.proofs.FittingScripts.{ruled_is_written}
use Rattle.vq_canonical_laws.proofs.laws.ruled_scripts_can_be_written.Goals as goal

pub returns : goal.returns
returns c = ruled_is_written
