use Rattle.vq_canonical_laws.proofs.OrderedReads.{read_jobs_said}
use Rattle.vq_canonical_laws.proofs.laws.job_lines_hold_their_statements.Goals as goal

pub returns : goal.returns
returns c = read_jobs_said
