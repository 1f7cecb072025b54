use Rattle.std.proofs.Common.{◌≡◌, ◌++◌, take}
use Rattle.vq_capture_touched.specs.Indexed.{touches_of}
use Rattle.vq_capture_check.proofs.touched.append_indexed.Given as goal

abbrev pub invariant-loop-touch : goal.invariant-loop-touch
invariant-loop-touch l = touches_of l.index ≡ touches_of l.fn.index ++ take l.touch-index l.recent
