use Rattle.std.proofs.Common.{◌≡◌, ◌+◌, ◌-◌, suc, Some, None, length, sym, ap, ◌∙◌, arith}
use Rattle.vq_model.specs.SlowRun.{lowest_ready, slow_from}
use Rattle.vq_spec.proofs.SlowSteps.{lowest_facts, slow_more, slow_stops}
use Rattle.vq_spec.proofs.order.run_slowly.Goals as goal

pub finish-requires-clause-exists : goal.finish-requires-clause-exists
finish-requires-clause-exists c =
    (lowest_facts c.args.plan.now c.loop-round.progress.order.items c.in-Some.j (sym c.lowest_ready.ensures ∙ c.in-Some.is)).0

pub finish-requires-clause-ready : goal.finish-requires-clause-ready
finish-requires-clause-ready c =
    (lowest_facts c.args.plan.now c.loop-round.progress.order.items c.in-Some.j (sym c.lowest_ready.ensures ∙ c.in-Some.is)).1

pub returns-in-None-clause-order : goal.returns-in-None-clause-order
returns-in-None-clause-order c =
    let p = c.args.plan.now in
    let order = c.loop-round.progress.order.items in
    let low : lowest_ready p order ≡ None = sym c.lowest_ready.ensures ∙ c.in-None.is in
    sym (slow_stops p (length p.jobs - c.loop-round._round) order low) ∙ c.loop-round.invariant.rest

pub loop-round-preserved : goal.loop-round-preserved
loop-round-preserved c =
    let p = c.args.plan.now in
    let n = length p.jobs - (c.loop-round._round + 1) in
    let order = c.loop-round.progress.order.items in
    let j = c.in-Some.j in
    let low : lowest_ready p order ≡ Some j = sym c.lowest_ready.ensures ∙ c.in-Some.is in
    let v = c.jobs-round-end.ensures in
    let t = c.loop-round-test.true in
    let z : suc n ≡ length p.jobs - c.loop-round._round = omega arith in
    record {
      come = c.in_ok-finish-in-Some.ensures.come;
      rest = ap (slow_from n p) c.in_ok-finish-in-Some.ensures.order
          ∙ (sym (slow_more p n j order low) ∙ (ap (λ m. slow_from m p order) z ∙ c.loop-round.invariant.rest));
    }
