use Rattle.std.proofs.Common.{length, ap, arith}
use Rattle.vq_board.proofs.Cited.{short}
use Rattle.vq_payload.proofs.chain.Chain.len.Goals as goal

pub overflow_cast-result : goal.overflow_cast-result
overflow_cast-result c =
    let a = c.self.inside in
    let few = short a.plan.value c.self.invariant.read a.number in
    let same = ap length c.self.invariant.operations in
    omega (arith, c.len.ensures, a.ops.ok.0)
