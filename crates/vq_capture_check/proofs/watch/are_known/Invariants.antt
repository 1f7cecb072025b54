use Rattle.std.proofs.Common.{◌≡◌, drop}
use Rattle.std.specs.List.{list_all}
use Rattle.vq_capture_check.specs.Watching.{is_known}
use Rattle.vq_capture_touched.specs.Standing.{points_in}
use Rattle.vq_capture_check.specs.Watches.{clocking_of}
use Rattle.vq_capture_check.proofs.watch.are_known.Given as goal

abbrev pub invariant-loop-stage : goal.invariant-loop-stage
invariant-loop-stage l =
    list_all (is_known l.cut (clocking_of l.y) l.x.at) (points_in l.x.step l.mask (drop l.stage-index l.stages))
    ≡ list_all (is_known l.cut (clocking_of l.y) l.x.at) (points_in l.x.step l.mask l.stages)
