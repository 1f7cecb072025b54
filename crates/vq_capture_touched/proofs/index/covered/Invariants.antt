use Rattle.std.proofs.Common.{take}
use Rattle.vq_capture_touched.specs.Forgetting.{AreCovered}
use Rattle.vq_capture_touched.proofs.index.covered.Given as goal

abbrev pub invariant-loop-kind : goal.invariant-loop-kind
invariant-loop-kind l = AreCovered l.w (take l.kind-index l.kinds) l.stamps.items
