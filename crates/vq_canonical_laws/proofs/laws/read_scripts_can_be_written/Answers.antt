use Rattle.vq_canonical_laws.proofs.CanonicalReads.{read_is_written}
use Rattle.vq_canonical_laws.proofs.laws.read_scripts_can_be_written.Goals as goal

pub returns : goal.returns
returns c = read_is_written
