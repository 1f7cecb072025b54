use Rattle.std.proofs.Common.{◌+◌, Option, sym, ◌∙◌, subst}
use Rattle.vq_order.specs.declared.lines.Lines.{Lines}
use Rattle.vq_order.specs.LeastLines.{IsOfFirst, AreLeastOrNone}
use Rattle.vq_order.specs.UnorderedLines.{IsUnorderedAt}
use Rattle.vq_order.proofs.LineSearches.{first_more}
use Rattle.vq_order.proofs.UnorderedSteps.{all_places}
use Rattle.vq_order.proofs.unordered.unordered_in.Goals as goal

pub loop-k-preserved : goal.loop-k-preserved
loop-k-preserved c =
    let R = IsUnorderedAt c.args.order.now c.args.t in
    subst (λ (o : Option Lines). AreLeastOrNone (IsOfFirst R (c.loop-k.k + 1)) o) (sym c.lower-lowest.ensures)
    (first_more R c.loop-k.k c.loop-k.lowest c.unordered_at.result c.loop-k.invariant c.unordered_at.ensures)

pub returns : goal.returns
returns c =
    all_places c.args.order.now c.args.t c.loop-k.k c.chain-k-end.result.now c.chain-k-end.ensures.value (sym c.is_timeline.ensures ∙ c.if-not-is_timeline.false) c.loop-k.auto.k-end c.loop-k-test.false c.loop-k.lowest c.loop-k.invariant
