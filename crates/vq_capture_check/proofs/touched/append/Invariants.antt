use Rattle.std.proofs.Common.{◌≡◌, ◌++◌, take}
use Rattle.vq_capture_check.proofs.touched.append.Given as goal

abbrev pub invariant-loop-touch : goal.invariant-loop-touch
invariant-loop-touch l = l.older.items ≡ l.fn.older.items ++ take l.touch-index l.newest
