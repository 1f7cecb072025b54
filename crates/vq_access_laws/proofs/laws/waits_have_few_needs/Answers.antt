use Rattle.vq_access_laws.proofs.FewNeeds.{few_needs}
use Rattle.vq_access_laws.proofs.laws.waits_have_few_needs.Goals as goal

pub returns : goal.returns
returns c = few_needs
