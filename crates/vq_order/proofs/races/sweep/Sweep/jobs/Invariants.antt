use Rattle.std.proofs.Common.{take}
use Rattle.vq_order.specs.CommandCells.{TouchesIn}
use Rattle.vq_order.specs.Swept.{Sweeps}
use Rattle.vq_order.proofs.races.sweep.Sweep.jobs.Given as goal

abbrev pub invariant-loop-j : goal.invariant-loop-j
invariant-loop-j l =
    Sweeps l.self.order.now l.initial.cells l.cells (TouchesIn l.self.order.now l.self.cuts.now l.self.count (take l.j-index l.j-items))
