use Rattle.std.proofs.Common.{◌≡◌, map, take, ℕ}
use Rattle.vq_spec.proofs.chains.ops_of.Given as goal

abbrev pub invariant-loop-pair : goal.invariant-loop-pair
invariant-loop-pair l = l.ops.items ≡ map (λ (p : ℕ × ℕ). p.1) (take l.pair-index l.pairs)
