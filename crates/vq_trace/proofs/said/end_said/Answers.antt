use Rattle.std.proofs.Common.{arith}
use Rattle.vq_trace.proofs.OtherWords.{long_end}
use Rattle.vq_trace.proofs.said.end_said.Goals as goal

pub returns-in_default-2 : goal.returns-in_default-2
returns-in_default-2 c = let size = c.in_default.len_at_least in long_end c.args.words.now (omega (arith, size))
