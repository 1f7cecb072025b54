use Rattle.std.proofs.Common.{arith}
use Rattle.vq_capture_touched.proofs.index.kind_for.Goals as goal

pub returns : goal.returns
returns c = λ k l e. let past = c.loop-place-test.false in absurd (omega arith)
