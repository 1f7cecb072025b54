use Rattle.std.proofs.Common.{◌≡◌, drop, map}
use Rattle.vq_capture_seen.specs.Ways.{is_reached, itself}
use Rattle.vq_capture_seen.proofs.ways.is_reached.Given as goal

abbrev pub invariant-loop-w : goal.invariant-loop-w
invariant-loop-w l =
    is_reached l.reads l.x l.y (map (λ z. z.now) l.found.items) (drop l.w-index l.behind)
    ≡ is_reached l.reads l.x l.y (itself l.x) l.behind
