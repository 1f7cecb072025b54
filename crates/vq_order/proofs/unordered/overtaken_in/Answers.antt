use Rattle.std.proofs.Common.{◌+◌, length, get_or, Option, sym, subst, arith}
use Rattle.vq_model.specs.declared.plan.Need.{Need}
use Rattle.vq_model.specs.Plan.{needs}
use Rattle.vq_plan_laws.proofs.Cited.{plan_semaphores}
use Rattle.vq_order.specs.declared.lines.Lines.{Lines}
use Rattle.vq_order.specs.LeastLines.{AreLeastOrNone, IsOfFirst, IsOfNeed}
use Rattle.vq_order.specs.UnorderedLines.{IsOvertaken}
use Rattle.vq_order.proofs.LineSearches.{first_more, all_first, need_at, needs_count, of_need}
use Rattle.vq_clocks.proofs.Cited.{need_chain}
use Rattle.vq_order.proofs.unordered.overtaken_in.Goals as goal

abbrev no_need : Need
no_need = record { line = 0; chain = 0; value = 0; from = 0 }

pub overtaken-requires-clause-chain : goal.overtaken-requires-clause-chain
overtaken-requires-clause-chain c =
    need_chain c.args.order.now (plan_semaphores c.args.order.now c.job.ensures.complete.plan) c.args.i c.job.result.now c.job.ensures.value c.as_slice-need-items.result.now c.as_slice-need-items.ensures c.loop-need.need-index no_need c.loop-need-test.true

pub loop-need-preserved : goal.loop-need-preserved
loop-need-preserved c =
    let p = c.args.order.now in
    let k = c.loop-need.need-index in
    let items = c.as_slice-need-items.result.now in
    let R = IsOfNeed p (IsOvertaken p c.args.i) c.args.i in
    let at = need_at p c.args.i c.job.result.now c.job.ensures.value items c.as_slice-need-items.ensures k no_need c.loop-need-test.true in
    subst (λ (o : Option Lines). AreLeastOrNone (IsOfFirst R (k + 1)) o) (sym c.lower-lowest.ensures)
    (first_more R k c.loop-need.lowest c.overtaken.result c.loop-need.invariant (of_need p (IsOvertaken p c.args.i) c.args.i k (get_or items k no_need) at c.overtaken.result c.overtaken.ensures))

pub returns : goal.returns
returns c =
    let p = c.args.order.now in
    let n = needs_count p c.args.i c.job.result.now c.job.ensures.value c.as_slice-need-items.result.now c.as_slice-need-items.ensures in
    let a = c.loop-need.auto.need-index-end in
    let b = c.loop-need-test.false in
    all_first (IsOfNeed p (IsOvertaken p c.args.i) c.args.i) c.loop-need.need-index (length (needs p c.args.i)) (omega arith) (omega arith) c.loop-need.lowest c.loop-need.invariant
