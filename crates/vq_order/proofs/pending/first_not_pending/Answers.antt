use Rattle.std.proofs.Common.{◌+◌, Option, length, subst, sym, arith}
use Rattle.vq_order.specs.declared.lines.Lines.{Lines}
use Rattle.vq_order.specs.LeastLines.{AreLeastOrNone, IsOfFirst}
use Rattle.vq_order.specs.Pending.{IsAheadIn}
use Rattle.vq_order.proofs.LineSearches.{all_first, first_more}
use Rattle.vq_order.proofs.PendingLaws.{fault_least, fault_none}
use Rattle.vq_order.proofs.pending.first_not_pending.Goals as goal

pub loop-j-preserved : goal.loop-j-preserved
loop-j-preserved c =
    let R = IsAheadIn c.args.order.now in
    subst (λ (o : Option Lines). AreLeastOrNone (IsOfFirst R (c.loop-j.j + 1)) o) (sym c.lower-lowest.ensures)
    (first_more R c.loop-j.j c.loop-j.lowest c.ahead_in.result c.loop-j.invariant c.ahead_in.ensures)

pub returns-in-Some : goal.returns-in-Some
returns-in-Some c =
    let p = c.args.order.now in
    let n = c.jobs-j-end.ensures in
    let a = c.loop-j.auto.j-end in
    let b = c.loop-j-test.false in
    fault_least p c.in-Some.lines (subst (AreLeastOrNone (IsOfFirst (IsAheadIn p) (length p.jobs))) c.in-Some.is (all_first (IsAheadIn p) c.loop-j.j (length p.jobs) (omega arith) (omega arith) c.loop-j.lowest c.loop-j.invariant))

pub returns-in-None : goal.returns-in-None
returns-in-None c =
    let p = c.args.order.now in
    let n = c.jobs-j-end.ensures in
    let a = c.loop-j.auto.j-end in
    let b = c.loop-j-test.false in
    fault_none p (subst (AreLeastOrNone (IsOfFirst (IsAheadIn p) (length p.jobs))) c.in-None.is (all_first (IsAheadIn p) c.loop-j.j (length p.jobs) (omega arith) (omega arith) c.loop-j.lowest c.loop-j.invariant))
