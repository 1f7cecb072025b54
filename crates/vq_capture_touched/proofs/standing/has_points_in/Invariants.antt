use Rattle.std.proofs.Common.{◌≡◌, drop, true}
use Rattle.std.specs.List.{list_any}
use Rattle.vq_capture_touched.specs.Standing.{points_in}
use Rattle.vq_capture_touched.proofs.standing.has_points_in.Given as goal

abbrev pub invariant-loop-stage : goal.invariant-loop-stage
invariant-loop-stage l =
    list_any (λ p. true) (points_in l.step l.mask (drop l.stage-index l.stages))
    ≡ list_any (λ p. true) (points_in l.step l.mask l.stages)
