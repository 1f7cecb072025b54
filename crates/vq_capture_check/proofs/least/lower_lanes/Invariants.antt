use Rattle.std.proofs.Common.{◌≡◌, drop}
use Rattle.vq_capture_check.specs.Least.{least_in, lower_lanes}
use Rattle.vq_capture_check.proofs.least.lower_lanes.Given as goal

abbrev pub invariant-loop-lane : goal.invariant-loop-lane
invariant-loop-lane l =
    lower_lanes (least_in l.least) l.line (drop l.lane-index l.lanes) ≡ lower_lanes (least_in l.fn.least) l.line l.lanes
