use Rattle.vq_access_laws.proofs.CauseLaws.{shown_still}
use Rattle.vq_access_laws.proofs.laws.wants_stay_shown.Goals as goal

pub returns : goal.returns
returns c = shown_still
