use Rattle.std.proofs.Common.{◌+◌, length, get_or, Option, sym, ◌∙◌, subst, arith}
use Rattle.vq_model.specs.declared.plan.Need.{Need}
use Rattle.vq_model.specs.Plan.{needs}
use Rattle.vq_plan_laws.proofs.Cited.{plan_semaphores}
use Rattle.vq_order.specs.declared.lines.Lines.{Lines}
use Rattle.vq_order.specs.LeastLines.{AreLeastOrNone, IsOfFirst, IsOfNeed}
use Rattle.vq_order.specs.Pending.{IsAhead, IsAheadIn}
use Rattle.vq_order.proofs.LineSearches.{first_more, all_first, lines_same, need_at, needs_count, of_need}
use Rattle.vq_clocks.proofs.Cited.{need_chain}
use Rattle.vq_order.proofs.pending.ahead_in.Goals as goal

abbrev no_need : Need
no_need = record { line = 0; chain = 0; value = 0; from = 0 }

pub ahead-requires-clause-chain : goal.ahead-requires-clause-chain
ahead-requires-clause-chain c =
    need_chain c.args.order.now (plan_semaphores c.args.order.now c.job.ensures.complete.plan) c.args.j c.job.result.now c.job.ensures.value c.as_slice-need-items.result.now c.as_slice-need-items.ensures c.loop-need.need-index no_need c.loop-need-test.true

pub loop-need-preserved : goal.loop-need-preserved
loop-need-preserved c =
    let p = c.args.order.now in
    let k = c.loop-need.need-index in
    let items = c.as_slice-need-items.result.now in
    let R = IsOfNeed p (IsAhead p c.args.j) c.args.j in
    let at = need_at p c.args.j c.job.result.now c.job.ensures.value items c.as_slice-need-items.ensures k no_need c.loop-need-test.true in
    subst (λ (o : Option Lines). AreLeastOrNone (IsOfFirst R (k + 1)) o) (sym c.lower-lowest.ensures)
    (first_more R k c.loop-need.lowest c.ahead.result c.loop-need.invariant (of_need p (IsAhead p c.args.j) c.args.j k (get_or items k no_need) at c.ahead.result c.ahead.ensures))

pub returns : goal.returns
returns c =
    let p = c.args.order.now in
    let n = needs_count p c.args.j c.job.result.now c.job.ensures.value c.as_slice-need-items.result.now c.as_slice-need-items.ensures in
    let a = c.loop-need.auto.need-index-end in
    let b = c.loop-need-test.false in
    let R = IsOfFirst (IsOfNeed p (IsAhead p c.args.j) c.args.j) (length (needs p c.args.j)) in
    lines_same R (IsAheadIn p c.args.j) (λ a b x. (sym c.is_immediate.ensures ∙ c.if-not-is_immediate.false, x)) (λ a b x. x.1) c.loop-need.lowest
    (all_first (IsOfNeed p (IsAhead p c.args.j) c.args.j) c.loop-need.need-index (length (needs p c.args.j)) (omega arith) (omega arith) c.loop-need.lowest c.loop-need.invariant)
