use Rattle.std.proofs.Common.{◌≡◌, not, drop, find}
use Rattle.vq_turns.specs.Turns.{has_reference_to}
use Rattle.vq_core.specs.CoreState.{world}
use Rattle.vq_core.proofs.state.Core.first_unreferenced.Given as goal

abbrev pub invariant-loop-point : goal.invariant-loop-point
invariant-loop-point l =
    find (λ q. not (has_reference_to (world l.self) q)) l.points ≡ find (λ q. not (has_reference_to (world l.self) q))
    (drop l.point-index l.points)
