use Rattle.vq_audit.proofs.OneVerdict.{one_verdict}
use Rattle.vq_audit.proofs.laws.traces_have_one_verdict.Goals as goal

pub returns : goal.returns
returns c = one_verdict
