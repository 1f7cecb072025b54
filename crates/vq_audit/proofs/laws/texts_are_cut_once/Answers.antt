use Rattle.vq_audit.proofs.Cuts.{cut_or_not, one_cut}
use Rattle.vq_audit.proofs.laws.texts_are_cut_once.Goals as goal

pub returns-clause-one : goal.returns-clause-one
returns-clause-one c = one_cut

pub returns-clause-uncut : goal.returns-clause-uncut
returns-clause-uncut c = cut_or_not
