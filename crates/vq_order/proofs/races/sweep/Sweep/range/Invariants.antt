use Rattle.vq_order.specs.Swept.{is_write, AreKnown, Sweeps, TouchesEach}
use Rattle.vq_order.proofs.races.sweep.Sweep.range.Given as goal

abbrev pub invariant-loop-k : goal.invariant-loop-k
invariant-loop-k l =
    Sweeps l.self.order.now l.initial.cells l.cells (TouchesEach l.first l.k l.by (is_write l.touch)) × AreKnown l.self.order.now l.known l.by
