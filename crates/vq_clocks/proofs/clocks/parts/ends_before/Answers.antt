use Rattle.std.proofs.Common.{leb, arith, rules}
use Rattle.std.proofs.lemmas.Bool.{leb-true, leb-false}
use Rattle.std.proofs.lemmas.List.Sorted.{IsPartitionPoint-from_clause, IsPartitionedBy-leb}
use Rattle.vq_clocks.proofs.clocks.parts.ends_before.Goals as goal

pub returns-clause-below : goal.returns-clause-below
returns-clause-below c =
    let parted = IsPartitionedBy-leb (λ x. x) _ c.args.ahead c.requires in
    let point = IsPartitionPoint-from_clause (λ x. leb x c.args.ahead) _ _ c.partition_point.ensures.partitioned parted (λ a r q k. search rules) in
    λ k h. leb-true _ _ (point.0 k 0 (omega arith) h)

pub returns-clause-above : goal.returns-clause-above
returns-clause-above c =
    let parted = IsPartitionedBy-leb (λ x. x) _ c.args.ahead c.requires in
    let point = IsPartitionPoint-from_clause (λ x. leb x c.args.ahead) _ _ c.partition_point.ensures.partitioned parted (λ a r q k. search rules) in
    λ k l h. leb-false _ _ (point.1 k 0 l h)
