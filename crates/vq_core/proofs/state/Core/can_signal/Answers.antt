use Rattle.std.proofs.Common.{◌∙◌, sym}
use Rattle.vq_core.proofs.GuardLaws.{signal_running, signal_next, can_signal}
use Rattle.vq_core.proofs.Tests.{never, confirmed, refuted, some_iff, none_iff}
use Rattle.vq_core.proofs.state.Core.can_signal.Goals as goal

pub returns-then-not-is_running : goal.returns-then-not-is_running
returns-then-not-is_running c =
    never (λ g. refuted c.is_running.result c.is_running.ensures c.if-not-is_running.true (signal_running
    c.args.self.now c.plan.ensures.course c.args.op c.op-job.result c.op-job.ensures.op g))

pub returns-in-Some : goal.returns-in-Some
returns-in-Some c =
    let found = sym c.in-Some.is ∙ c.next_signal.ensures in
    some_iff c.in-Some.next c.args.op
    (λ e. can_signal c.args.self.now c.plan.ensures.course c.args.op c.op-job.result c.op-job.ensures.op (confirmed
    c.is_running.result c.is_running.ensures c.if-not-is_running.false) (sym c.is_bound.ensures
    ∙ c.if-not-is_bound.false) (sym found ∙ e))
    (λ g. found ∙ signal_next c.args.self.now c.plan.ensures.course c.args.op c.op-job.result c.op-job.ensures.op g)

pub returns-in-None : goal.returns-in-None
returns-in-None c =
    let found = sym c.in-None.is ∙ c.next_signal.ensures in
    none_iff c.args.op (λ g. found ∙ signal_next c.args.self.now c.plan.ensures.course c.args.op c.op-job.result
    c.op-job.ensures.op g)
