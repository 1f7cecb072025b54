use Rattle.std.proofs.Common.{take}
use Rattle.vq_live_lock.specs.Waits.{AreMet}
use Rattle.vq_live_lock.proofs.waits.wait_all.Given as goal

abbrev pub invariant-loop-pair : goal.invariant-loop-pair
invariant-loop-pair g l = AreMet (take l.pair-index l.wanted) l.all.items
