use Rattle.vq_access_laws.proofs.Truths.{names_same}
use Rattle.vq_access_laws.proofs.laws.tables_are_known_by_their_numbers.Goals as goal

pub returns : goal.returns
returns c = names_same
