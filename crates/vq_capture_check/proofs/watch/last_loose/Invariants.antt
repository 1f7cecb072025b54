use Rattle.std.proofs.Common.{◌≡◌, ◌≤◌, map, take, length}
use Rattle.vq_capture_check.specs.Watching.{last_loose}
use Rattle.vq_capture_check.specs.Watches.{clocking_of}
use Rattle.vq_capture_check.proofs.watch.last_loose.Given as goal

abbrev pub invariant-loop-left : goal.invariant-loop-left
invariant-loop-left l =
    (l.left ≤ length l.touched)
    × (last_loose l.cut (map clocking_of l.points) l.b (take l.left l.touched)
    ≡ last_loose l.cut (map clocking_of l.points) l.b l.touched)

abbrev pub decreases-loop-left : goal.decreases-loop-left
decreases-loop-left l = l.left
