use Rattle.std.proofs.Common.{◌<◌, ◌∙◌, length, sym, ap, arith}
use Rattle.vq_model.specs.Plan.{Plan}
use Rattle.vq_core.proofs.GuardLaws.{finish_iff, finish_exists}
use Rattle.vq_core.proofs.Tests.{never, confirmed}
use Rattle.vq_core.proofs.state.Core.can_finish.Goals as goal

pub returns-then-job-jobs : goal.returns-then-job-jobs
returns-then-job-jobs c =
    let n = c.jobs.ensures in
    let v = ap (λ (p : Plan). length p.jobs) c.plan.ensures.value in
    let test = c.if-job-jobs.true in
    never (λ g. let l = finish_exists c.args.self.now c.plan.ensures.course c.args.job g in omega arith)

pub returns : goal.returns
returns c =
    let n = c.jobs.ensures in
    let v = ap (λ (p : Plan). length p.jobs) c.plan.ensures.value in
    let test = c.if-job-jobs.false in
    let exists : c.args.job < length c.args.self.now.plan.jobs = omega arith in
    finish_iff c.args.self.now c.plan.ensures.course c.args.job exists c.holds_none.result
    (confirmed c.is_running.result c.is_running.ensures c.if-not-is_running.false)
    (sym c.signals_done.ensures ∙ c.if-not-signals_done.false) (sym c.is_settled.ensures ∙ c.if-not-is_settled.false)
    c.holds_none.ensures
