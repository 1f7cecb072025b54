use Rattle.std.proofs.Common.{◌≡◌, drop}
use Rattle.std.specs.List.{list_all}
use Rattle.vq_capture_seen.specs.Ways.{is_delivered}
use Rattle.vq_capture_seen.proofs.ways.all_delivered.Given as goal

abbrev pub invariant-loop-y : goal.invariant-loop-y
invariant-loop-y l =
    list_all (is_delivered l.reads l.x l.behind) (drop l.y-index l.points)
    ≡ list_all (is_delivered l.reads l.x l.behind) l.points
