use Rattle.std.proofs.Common.{rules, ◌∙◌, ap, subst, sym, ℕ, List}
use Rattle.std.specs.List.Sorted.{IsSorted}
use Rattle.std.proofs.lemmas.List.Sorted.{IsPartitionPoint-from_clause}
use Rattle.vq_spec.specs.ChainParts.{is_before, pair_cmp, place_in}
use Rattle.vq_spec.proofs.SortedPairs.{parted_before, prefix_len_is}
use Rattle.vq_spec.proofs.chains.Chain.place.Goals as goal

pub returns : goal.returns
returns c =
    let v = c.args.value in
    let e = c.args.op in
    let xs = c.as_slice-pairs.result.now in
    prefix_len_is (λ p. is_before p v e) xs c.partition_point.result
    c.partition_point.ensures.bound
    (IsPartitionPoint-from_clause (λ p. is_before p v e) xs c.partition_point.result
    c.partition_point.ensures.partitioned
    (parted_before xs v e (subst (λ (ps : List (ℕ × ℕ)). IsSorted pair_cmp ps)
    (sym c.as_slice-pairs.ensures.value) c.requires))
    (λ a r f' k. search rules))
    ∙ ap (λ ps. place_in ps v e) c.as_slice-pairs.ensures.value
