use Rattle.vq_order.specs.Busy.{AreLastNamings, NoneBusyBefore}
use Rattle.vq_order.proofs.busy.first_busy.Given as goal

abbrev pub invariant-loop-j : goal.invariant-loop-j
invariant-loop-j l = AreLastNamings l.order.script l.j l.named.items × NoneBusyBefore l.order l.j
