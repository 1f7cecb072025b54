use Rattle.std.proofs.Common.{arith}
use Rattle.vq_trace.proofs.OtherWords.{long_bound, short_bound}
use Rattle.vq_trace.proofs.events.bound.Goals as goal

pub returns-in_default : goal.returns-in_default
returns-in_default c = let size = c.in_default.len_below in short_bound c.args.plan.now c.args.words.now (omega (arith, size))

pub returns-in_default-2 : goal.returns-in_default-2
returns-in_default-2 c = let size = c.in_default.len_at_least in long_bound c.args.plan.now c.args.words.now (omega (arith, size))
