use Rattle.std.proofs.Common.{take}
use Rattle.vq_capture_touched.specs.Forgetting.{Forgets}
use Rattle.vq_capture_touched.proofs.index.TouchIndex.forget_some.Given as goal

abbrev pub invariant-loop-stamp : goal.invariant-loop-stamp
invariant-loop-stamp l = Forgets l.w l.fn.self.touches l.self.touches (take l.stamp-index l.stamps)
