use Rattle.vq_canonical_laws.proofs.CanonicalReads.{canonical_reads_back}
use Rattle.vq_canonical_laws.proofs.laws.canonical_text_reads_back.Goals as goal

pub returns : goal.returns
returns c = canonical_reads_back
