use Rattle.std.proofs.Common.{◌≡◌, ◌++◌, drop, map}
use Rattle.vq_capture_touched.specs.Standing.{points_in}
use Rattle.vq_capture_seen.specs.Ways.{told}
use Rattle.vq_capture_seen.proofs.watch.spots_in.Given as goal

abbrev pub invariant-loop-stage : goal.invariant-loop-stage
invariant-loop-stage l =
    l.spots.items ++ map (told l.released) (points_in l.step l.mask (drop l.stage-index l.stages))
    ≡ map (told l.released) (points_in l.step l.mask l.stages)
