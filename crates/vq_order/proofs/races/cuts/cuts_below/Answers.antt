use Rattle.std.proofs.Common.{ltb, ltb-true, arith, rules}
use Rattle.std.proofs.lemmas.Bool.{ltb-false}
use Rattle.std.proofs.lemmas.List.Sorted.{IsPartitionPoint-from_clause, IsPartitionedBy-ltb}
use Rattle.vq_order.proofs.races.cuts.cuts_below.Goals as goal

pub returns : goal.returns
returns c =
    let parted = IsPartitionedBy-ltb (λ x. x) _ c.args.place c.requires in
    let point = IsPartitionPoint-from_clause (λ x. ltb x c.args.place) _ _ c.partition_point.ensures.partitioned parted (λ a r q k. search rules) in
    record {
      within = search rules;
      below = λ k h. ltb-true _ _ (point.0 k 0 (omega arith) h);
      above = λ k l h. ltb-false _ _ (point.1 k 0 l h);
    }
