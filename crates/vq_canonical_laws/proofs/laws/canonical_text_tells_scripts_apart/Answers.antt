use Rattle.vq_canonical_laws.proofs.CanonicalReads.{canonical_tells_apart}
use Rattle.vq_canonical_laws.proofs.laws.canonical_text_tells_scripts_apart.Goals as goal

pub returns : goal.returns
returns c = canonical_tells_apart
