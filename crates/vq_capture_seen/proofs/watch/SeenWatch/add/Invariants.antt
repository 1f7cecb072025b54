use Rattle.std.proofs.Common.{◌≡◌, ◌++◌}
use Rattle.vq_capture_seen.specs.Ways.{told_points}
use Rattle.vq_capture_seen.proofs.watch.SeenWatch.add.Given as goal

abbrev pub invariant-loop-point : goal.invariant-loop-point
invariant-loop-point l =
    l.self-inside.points.items ++ l.point-iterator.rest.items ≡ l.fn.self ++ told_points l.fn.step l.fn.released
