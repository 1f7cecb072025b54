use Rattle.std.proofs.Common.{◌≡◌, length, map, take}
use Rattle.std.specs.List.{range_with_len}
use Rattle.vq_spec.specs.ChainParts.{members}
use Rattle.vq_spec.proofs.chains.gather.Given as goal

abbrev pub invariant-loop-e : goal.invariant-loop-e
invariant-loop-e l = map (λ v. v.items) l.lists.items
    ≡ map (members (take l.e l.ops)) (range_with_len 0 (length l.counts))
