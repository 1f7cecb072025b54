use Rattle.std.proofs.Common.{arith}
use Rattle.vq_text.proofs.HexLines.{length-lines}
use Rattle.vq_text.proofs.hexadecimal.lines_room.Goals as goal

pub returns-clause-exact : goal.returns-clause-exact
returns-clause-exact c = λ bytes same. omega (arith, length-lines bytes, c.div_ceil.ensures)
