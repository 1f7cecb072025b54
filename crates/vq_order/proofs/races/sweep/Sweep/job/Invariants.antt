use Rattle.std.proofs.Common.{take}
use Rattle.vq_order.specs.CommandCells.{TouchesAmong}
use Rattle.vq_order.specs.Swept.{Sweeps}
use Rattle.vq_order.proofs.races.sweep.Sweep.job.Given as goal

abbrev pub invariant-loop-c : goal.invariant-loop-c
invariant-loop-c l =
    Sweeps l.self.order.now l.initial.cells l.cells (TouchesAmong l.self.order.now l.self.cuts.now l.self.count (take l.c-index l.c-items))
