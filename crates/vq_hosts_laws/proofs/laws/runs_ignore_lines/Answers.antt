use Rattle.std.proofs.Common.{sym}
use Rattle.vq_hosts_laws.proofs.SameRuns.{same_runs}
use Rattle.vq_hosts_laws.proofs.laws.runs_ignore_lines.Goals as goal

pub returns : goal.returns
returns c a b steps same = (same_runs a b same steps, same_runs b a (sym same) steps)
