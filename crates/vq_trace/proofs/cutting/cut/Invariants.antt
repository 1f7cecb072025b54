use Rattle.std.proofs.Common.{◌-◌, length}
use Rattle.vq_trace.proofs.LineCuts.{HavePassed}
use Rattle.vq_trace.proofs.cutting.cut.Given as goal

abbrev pub invariant-loop-start : goal.invariant-loop-start
invariant-loop-start l = HavePassed l.bytes l.start l.number

abbrev pub decreases-loop-start : goal.decreases-loop-start
decreases-loop-start l = length l.bytes - l.start
