use Rattle.std.proofs.Common.{◌≡◌, ◌+◌, ℕ, length, map, Some}
use Rattle.std.specs.List.{range_with_len, slice_get}
use Rattle.vq_spec.specs.declared.chains.Chain.{Chain}
use Rattle.vq_spec.specs.ChainParts.{members, Sorts}
use Rattle.vq_spec.proofs.chains.lower_chains.Given as goal

abbrev pub invariant-loop-members : goal.invariant-loop-members
invariant-loop-members l = record {
  left : map (λ v. v.items) l.members-iterator.rest.items
      ≡ map (members l.ops) (range_with_len (length l.chains.items) (length l.members-iterator.rest.items));
  count : length l.chains.items + length l.members-iterator.rest.items ≡ length l.counts;
  each : (t : ℕ) → (c : Chain) → slice_get l.chains.items t ≡ Some c → Sorts (members l.ops t) c;
}
