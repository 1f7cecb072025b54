use Rattle.std.proofs.Common.{◌≡◌, ◌+◌, [], length, get_or, Option, subst, sym, ap, ◌∙◌, arith}
use Rattle.std.specs.Option.{option_map_or}
use Rattle.vq_model.specs.declared.plan.Need.{Need}
use Rattle.vq_model.specs.Plan.{needs}
use Rattle.vq_plan_laws.proofs.Cited.{plan_semaphores}
use Rattle.vq_order.specs.declared.lines.Lines.{Lines}
use Rattle.vq_order.specs.LeastLines.{AreLeastOrNone, IsOfFirst, IsOfNeed}
use Rattle.vq_order.specs.Unreached.{IsUnreached}
use Rattle.vq_order.proofs.LineSearches.{first_more, all_first, need_at, needs_count, of_need}
use Rattle.vq_order.proofs.UnreachedLaws.{chain_at}
use Rattle.vq_order.proofs.unreachable.unreached_in.Goals as goal

abbrev no_need : Need
no_need = record { line = 0; chain = 0; value = 0; from = 0 }

pub unreached-requires-clause-chain : goal.unreached-requires-clause-chain
unreached-requires-clause-chain c =
    let p = c.args.plan.now in
    let items = c.as_slice-need-items.result.now in
    let e : items ≡ needs p c.args.j =
    c.as_slice-need-items.ensures ∙ sym (ap (λ o. option_map_or (λ y. y.needs) o []) c.job.ensures) in
    chain_at (length p.script.semaphores) items (needs p c.args.j) e
    ((plan_semaphores p c.requires.run.plan).needs_chain c.args.j) c.loop-need.need-index _ c.loop-need-test.true

pub loop-need-preserved : goal.loop-need-preserved
loop-need-preserved c =
    let p = c.args.plan.now in
    let k = c.loop-need.need-index in
    let items = c.as_slice-need-items.result.now in
    let R = IsOfNeed p (IsUnreached p c.args.j) c.args.j in
    let at = need_at p c.args.j c.job.result.now c.job.ensures items c.as_slice-need-items.ensures k no_need c.loop-need-test.true in
    subst (λ (o : Option Lines). AreLeastOrNone (IsOfFirst R (k + 1)) o) (sym c.lower-lowest.ensures)
    (first_more R k c.loop-need.lowest c.unreached.result c.loop-need.invariant (of_need p (IsUnreached p c.args.j) c.args.j k (get_or items k no_need) at c.unreached.result c.unreached.ensures))

pub returns : goal.returns
returns c =
    let p = c.args.plan.now in
    let n = needs_count p c.args.j c.job.result.now c.job.ensures c.as_slice-need-items.result.now c.as_slice-need-items.ensures in
    let a = c.loop-need.auto.need-index-end in
    let b = c.loop-need-test.false in
    all_first (IsOfNeed p (IsUnreached p c.args.j) c.args.j) c.loop-need.need-index (length (needs p c.args.j)) (omega arith) (omega arith) c.loop-need.lowest c.loop-need.invariant
