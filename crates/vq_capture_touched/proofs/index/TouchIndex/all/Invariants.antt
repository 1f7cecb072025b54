use Rattle.std.proofs.Common.{◌≡◌, ◌++◌}
use Rattle.std.specs.BTreeMap.{values}
use Rattle.vq_capture_touched.proofs.index.TouchIndex.all.Given as goal

abbrev pub invariant-loop-touch : goal.invariant-loop-touch
invariant-loop-touch l = l.touches.items ++ l.touch-iterator ≡ values l.self.touches
