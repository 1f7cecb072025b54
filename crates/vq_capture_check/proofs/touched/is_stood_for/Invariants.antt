use Rattle.std.proofs.Common.{◌≡◌, drop}
use Rattle.vq_capture_check.specs.Watching.{is_stood_for}
use Rattle.vq_capture_check.proofs.touched.is_stood_for.Given as goal

abbrev pub invariant-loop-w : goal.invariant-loop-w
invariant-loop-w l = is_stood_for l.step (drop l.w-index l.newest) l.a ≡ is_stood_for l.step l.newest l.a
