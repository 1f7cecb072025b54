use Rattle.std.proofs.Common.{arith}
use Rattle.vq_trace.proofs.OtherWords.{long_point}
use Rattle.vq_trace.proofs.events.one_point.Goals as goal

pub returns-in_default-2 : goal.returns-in_default-2
returns-in_default-2 c = let size = c.in_default.len_at_least in long_point c.args.words.now (omega (arith, size))
