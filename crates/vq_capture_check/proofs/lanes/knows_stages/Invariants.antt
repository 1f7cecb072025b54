use Rattle.std.proofs.Common.{◌≡◌, drop}
use Rattle.vq_capture_check.specs.Clocks.{says, knows}
use Rattle.vq_capture_check.specs.Lanes.{lanes_in}
use Rattle.vq_capture_check.proofs.lanes.knows_stages.Given as goal

abbrev pub invariant-loop-stage : goal.invariant-loop-stage
invariant-loop-stage l =
    knows (says l.clock) l.line (lanes_in l.first l.mask (drop l.stage-index l.stages))
    ≡ knows (says l.clock) l.line (lanes_in l.first l.mask l.stages)
