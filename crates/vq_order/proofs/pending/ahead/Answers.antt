use Rattle.std.proofs.Common.{sym, ◌∙◌, ap}
use Rattle.vq_model.specs.Plan.{resolver}
use Rattle.vq_clocks.proofs.Cited.{resolver_here}
use Rattle.vq_order.proofs.pending.ahead.Goals as goal

pub may_come_late-requires-clause-op_exists : goal.may_come_late-requires-clause-op_exists
may_come_late-requires-clause-op_exists c =
    let n = c.args.need.now in
    resolver_here c.args.order.now c.plan.ensures.complete.plan n.chain n.value c.in_ok-op.op
    (sym (ap (λ p. resolver p n.chain n.value) c.plan.ensures.value) ∙ (sym c.resolver.ensures.value ∙ c.in_ok-op.was))
