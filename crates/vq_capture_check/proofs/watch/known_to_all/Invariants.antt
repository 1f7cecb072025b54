use Rattle.std.proofs.Common.{◌≡◌, drop, map}
use Rattle.std.specs.List.{list_all}
use Rattle.vq_capture_check.specs.Watching.{all_known}
use Rattle.vq_capture_check.specs.Watches.{clocking_of}
use Rattle.vq_capture_check.proofs.watch.known_to_all.Given as goal

abbrev pub invariant-loop-point : goal.invariant-loop-point
invariant-loop-point l =
    list_all (all_known l.cut l.x) (map clocking_of (drop l.point-index l.points))
    ≡ list_all (all_known l.cut l.x) (map clocking_of l.points)
