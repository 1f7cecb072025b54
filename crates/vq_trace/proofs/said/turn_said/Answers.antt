use Rattle.std.proofs.Common.{arith}
use Rattle.vq_trace.proofs.OtherWords.{short_turn}
use Rattle.vq_trace.proofs.said.turn_said.Goals as goal

pub returns-in_default : goal.returns-in_default
returns-in_default c = let size = c.in_default.len_below in short_turn c.args.plan.now c.args.words.now (omega (arith, size))
