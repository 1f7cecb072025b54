use Rattle.std.proofs.Common.{◌≡◌, drop, map}
use Rattle.std.specs.List.{list_any}
use Rattle.vq_capture_seen.specs.Ways.{leads}
use Rattle.vq_capture_seen.proofs.ways.any_leads.Given as goal

abbrev pub invariant-loop-z : goal.invariant-loop-z
invariant-loop-z l =
    list_any (λ z. leads z l.w) (map (λ z. z.now) (drop l.z-index l.found))
    ≡ list_any (λ z. leads z l.w) (map (λ z. z.now) l.found)
