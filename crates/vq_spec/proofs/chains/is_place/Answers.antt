use Rattle.std.proofs.Common.{◌∙◌, ◌≡◌, ◌-◌, ℕ, true, arith, subst, sym, slice_index_or}
use Rattle.vq_spec.specs.ChainParts.{is_before}
use Rattle.vq_spec.proofs.SortedPairs.{place_is}
use Rattle.vq_spec.proofs.chains.is_place.Goals as goal

pub returns : goal.returns
returns c t =
    let xs = c.args.pairs.now in
    let v = c.args.value in
    let e = c.args.op in
    place_is xs v e c.args.place (0, 0) c.requires c.if-place-pairs.false
    (sym c.is_before.ensures ∙ c.if-is_before.false)
    (λ k s. subst (λ (n : ℕ). is_before (slice_index_or xs n (0, 0)) v e ≡ true)
    (let z : c.args.place - 1 ≡ k = omega arith in z)
    (sym c.is_before-2.ensures ∙ t))
