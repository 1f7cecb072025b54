use Rattle.std.proofs.Common.{map, take}
use Rattle.vq_capture_check.specs.Watches.{clocking_of}
use Rattle.vq_capture_check.specs.Searches.{AreFast}
use Rattle.vq_capture_check.proofs.loose.none_loose.Given as goal

abbrev pub invariant-loop-stamp : goal.invariant-loop-stamp
invariant-loop-stamp l =
    AreFast l.cut (map clocking_of l.points) l.b l.index.touches (take l.stamp-index l.stamps)
