use Rattle.vq_trace_laws.proofs.TraceLaws.{rounds_read}
use Rattle.vq_trace_laws.proofs.laws.rounds_read_back.Goals as goal

pub returns : goal.returns
returns c = rounds_read
