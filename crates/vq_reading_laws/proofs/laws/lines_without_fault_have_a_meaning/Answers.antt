use Rattle.vq_reading_laws.proofs.Meanings.{has_meaning}
use Rattle.vq_reading_laws.proofs.laws.lines_without_fault_have_a_meaning.Goals as goal

pub returns : goal.returns
returns c = has_meaning
