use Rattle.std.proofs.Common.{get_or, ◌∙◌, arith}
use Rattle.std.proofs.lemmas.List.{length-set}
use Rattle.vq_plan_laws.proofs.Cited.{plan_lanes}
use Rattle.vq_clocks.proofs.RowLaws.{slow_at, positions_push, positions_end, order_short}
use Rattle.vq_clocks.proofs.complete_run.positions.Goals as goal

pub overflow_cast-place : goal.overflow_cast-place
overflow_cast-place c =
    let s = order_short c.args.plan.now c.args.order.now c.requires.order in
    let b = (plan_lanes c.args.plan.now c.requires.complete.plan).few_jobs in
    omega arith

pub index_mut-requires : goal.index_mut-requires
index_mut-requires c =
    let s = slow_at c.args.plan.now c.args.order.now c.requires.order c.loop-place.place c.loop-place-test.true in
    let a = s.0 in
    let b = c.loop-place.invariant.0 in
    let d = c.loop-place.positions.ok.0 in
    omega arith

pub loop-place-preserved : goal.loop-place-preserved
loop-place-preserved c =
    let i = c.loop-place.place in
    let order = c.args.order.now in
    let old = c.loop-place.positions.items in
    (length-set old (get_or order i 0) i ∙ c.loop-place.invariant.0, positions_push c.args.plan.now order old c.requires.order i c.loop-place-test.true c.loop-place.invariant.0 c.loop-place.invariant.1)

pub returns : goal.returns
returns c = positions_end c.args.plan.now c.requires.complete.reachable c.args.order.now c.loop-place.positions.items c.requires.order c.loop-place.place c.loop-place-test.false c.loop-place.invariant.0 c.loop-place.invariant.1
