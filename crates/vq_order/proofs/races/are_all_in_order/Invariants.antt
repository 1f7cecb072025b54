use Rattle.vq_order.specs.Accessed.{AreAllInOrder, IsJobInOrder}
use Rattle.vq_order.proofs.races.are_all_in_order.Given as goal

abbrev pub invariant-loop-c : goal.invariant-loop-c
invariant-loop-c l =
    AreAllInOrder l.order l.accesses l.c l.d × IsJobInOrder l.order l.accesses l.in_order l.c l.d l.d
