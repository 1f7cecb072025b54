use Rattle.std.proofs.Common.{◌≡◌, ◌++◌, drop}
use Rattle.vq_capture_check.specs.Lanes.{lanes_in}
use Rattle.vq_capture_check.proofs.lanes.add_stages.Given as goal

abbrev pub invariant-loop-stage : goal.invariant-loop-stage
invariant-loop-stage l =
    l.lanes.items ++ lanes_in l.first l.mask (drop l.stage-index l.stages)
    ≡ l.fn.lanes.items ++ lanes_in l.first l.mask l.stages
