use Rattle.std.proofs.Common.{◌≡◌, ◌++◌, drop, map}
use Rattle.vq_capture_check.specs.Clocks.{cells_of}
use Rattle.vq_capture_check.specs.Watches.{clocked_in, clocking_of}
use Rattle.vq_capture_check.proofs.watch.clocked_in.Given as goal

abbrev pub invariant-loop-stage : goal.invariant-loop-stage
invariant-loop-stage l =
    map clocking_of l.points.items ++ clocked_in (cells_of l.cells) l.first l.step l.mask (drop l.stage-index l.stages)
    ≡ clocked_in (cells_of l.cells) l.first l.step l.mask l.stages
