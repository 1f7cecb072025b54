use Rattle.std.proofs.Common.{◌≡◌, drop}
use Rattle.vq_capture_check.specs.Least.{least_in, lower_touches}
use Rattle.vq_capture_check.proofs.least.lower_touches.Given as goal

abbrev pub invariant-loop-touch : goal.invariant-loop-touch
invariant-loop-touch l =
    lower_touches (least_in l.least) (drop l.touch-index l.touches)
    ≡ lower_touches (least_in l.fn.least) l.touches
