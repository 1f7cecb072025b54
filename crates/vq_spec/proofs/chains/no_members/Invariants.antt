use Rattle.std.proofs.Common.{◌≡◌, map, []}
use Rattle.std.specs.List.{range_with_len}
use Rattle.vq_spec.proofs.chains.no_members.Given as goal

abbrev pub invariant-loop-count : goal.invariant-loop-count
invariant-loop-count l = map (λ v. v.items) l.lists.items ≡ map (λ t. []) (range_with_len 0 l.count-index)
