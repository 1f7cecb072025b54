use Rattle.std.proofs.Common.{arith}
use Rattle.vq_trace.proofs.OtherWords.{long_job}
use Rattle.vq_trace.proofs.events.one_job.Goals as goal

pub returns-in_default-2 : goal.returns-in_default-2
returns-in_default-2 c = let size = c.in_default.len_at_least in long_job c.args.plan.now c.args.words.now (omega (arith, size))
