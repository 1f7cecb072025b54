use Rattle.std.proofs.Common.{map, take}
use Rattle.vq_capture_check.specs.Watches.{clocking_of}
use Rattle.vq_capture_check.specs.Searches.{AreFound}
use Rattle.vq_capture_check.proofs.loose.near.Given as goal

abbrev pub invariant-loop-kind : goal.invariant-loop-kind
invariant-loop-kind l = AreFound l.cut (map clocking_of l.points) l.b (take l.kind-index l.kinds) l.stamps.items
