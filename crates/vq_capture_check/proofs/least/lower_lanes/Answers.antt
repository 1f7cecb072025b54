use Rattle.std.proofs.Common.{◌∙◌}
use Rattle.vq_capture_check.specs.Least.{least_in}
use Rattle.vq_capture_check.proofs.LoweredLines.{lowered_next}
use Rattle.vq_capture_check.proofs.least.lower_lanes.Goals as goal

pub loop-lane-preserved : goal.loop-lane-preserved
loop-lane-preserved c =
    lowered_next (least_in c.loop-lane.least) (least_in c.lower.new.self) c.args.line c.args.lanes.now c.loop-lane.lane-index _ c.loop-lane-test.true (λ k. c.in_ok-lower.ensures k)
    ∙ c.loop-lane.invariant
