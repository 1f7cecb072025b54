use Rattle.std.proofs.Common.{◌≡◌}
use Rattle.vq_spec.specs.Walks.{never_used}
use Rattle.vq_spec.proofs.uses.never_used.Given as goal

abbrev pub invariant-loop : goal.invariant-loop
invariant-loop l = l.last.items ≡ never_used l.counter
