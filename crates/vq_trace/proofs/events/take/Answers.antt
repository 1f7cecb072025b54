use Rattle.std.proofs.Common.{arith}
use Rattle.vq_trace.proofs.OtherWords.{long_take, short_take}
use Rattle.vq_trace.proofs.events.take.Goals as goal

pub returns-in_default : goal.returns-in_default
returns-in_default c = let size = c.in_default.len_below in short_take c.args.plan.now c.args.words.now (omega (arith, size))

pub returns-in_default-2 : goal.returns-in_default-2
returns-in_default-2 c = let size = c.in_default.len_at_least in long_take c.args.plan.now c.args.words.now (omega (arith, size))
