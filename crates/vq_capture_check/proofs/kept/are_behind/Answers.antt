use Rattle.std.proofs.Common.{sym, arith}
use Rattle.vq_ground.proofs.Tests.{below_of_test}
use Rattle.vq_capture_check.proofs.KeptOrders.{from_first}
use Rattle.vq_capture_check.proofs.kept.are_behind.Goals as goal

pub returns-in-Some : goal.returns-in-Some
returns-in-Some c t m h =
    let l = below_of_test c.args.highest c.in-Some.first.now t in
    let f = from_first c.args.lines.now c.requires c.in-Some.first.now (sym c.in-Some.ensures.value) m h in
    omega arith
