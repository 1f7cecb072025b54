use Rattle.vq_canonical_laws.proofs.CanonicalLaws.{ignores_lines}
use Rattle.vq_canonical_laws.proofs.laws.canonical_text_ignores_lines.Goals as goal

pub returns : goal.returns
returns c = ignores_lines
