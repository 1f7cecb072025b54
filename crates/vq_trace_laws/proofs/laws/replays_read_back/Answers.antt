use Rattle.vq_trace_laws.proofs.TraceLaws.{replay_reads}
use Rattle.vq_trace_laws.proofs.laws.replays_read_back.Goals as goal

pub returns : goal.returns
returns c = replay_reads
