use Rattle.std.proofs.Common.{◌≡◌, List, [], eqb, take, sym, ap, ◌∙◌, subst}
use Rattle.std.specs.Option.{option_map_or}
use Rattle.std.proofs.lemmas.List.{take_all}
use Rattle.std.proofs.lemmas.List.Filters.{dedup_is}
use Rattle.vq_model.specs.declared.plan.Need.{Need}
use Rattle.vq_model.specs.Plan.{needs}
use Rattle.vq_clocks.proofs.PartLaws.{ends_are, ends_more, HasEnds}
use Rattle.vq_clocks.proofs.clocks.parts.part_ends.Goals as goal

pub loop-need-preserved : goal.loop-need-preserved
loop-need-preserved c =
    ends_more c.as_slice-need-items.result.now c.loop-need.need-index c.loop-need.ends.items c.push_end.new.ends.items c.loop-need-test.true c.loop-need.invariant c.in_ok-push_end.ensures

pub returns : goal.returns
returns c =
    let ns = c.as_slice-need-items.result.now in
    let i = c.loop-need.need-index in
    let are : ns ≡ needs c.args.plan.now c.args.j = c.as_slice-need-items.ensures ∙ sym (ap (λ o. option_map_or (λ x. x.needs) o []) c.job.ensures) in
    let all : take i ns ≡ ns = take_all i ns c.loop-need-test.false in
    ends_are c.args.plan.now c.args.j ns are c.loop-need.ends.items c.sort_unstable.new.self.items c.dedup.new.self.items (subst (λ (ms : List Need). HasEnds ms c.loop-need.ends.items) all c.loop-need.invariant) c.sort_unstable.ensures.permutation c.sort_unstable.ensures.sorted (dedup_is eqb c.sort_unstable.new.self.items c.dedup.new.self.items c.dedup.ensures.filtered)
