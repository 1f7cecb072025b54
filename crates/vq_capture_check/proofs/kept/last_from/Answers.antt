use Rattle.std.proofs.Common.{sym, arith}
use Rattle.vq_capture_check.proofs.KeptOrders.{to_last}
use Rattle.vq_capture_check.proofs.kept.last_from.Goals as goal

pub returns-in-Some-clause-last : goal.returns-in-Some-clause-last
returns-in-Some-clause-last c m l =
    to_last c.args.lines.now c.requires c.in-Some.last.now (sym c.in-Some.ensures.value) m (let e = c.max.ensures in omega arith)
