use Rattle.std.proofs.Common.{◌≡◌, drop}
use Rattle.vq_capture_check.specs.Least.{least_in, lower_points}
use Rattle.vq_capture_touched.specs.Standing.{points_in}
use Rattle.vq_capture_check.proofs.least.lower_stages.Given as goal

abbrev pub invariant-loop-stage : goal.invariant-loop-stage
invariant-loop-stage l =
    lower_points (least_in l.least) l.touch (points_in l.touch.step l.mask (drop l.stage-index l.stages))
    ≡ lower_points (least_in l.fn.least) l.touch (points_in l.touch.step l.mask l.stages)
