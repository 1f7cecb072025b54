use Rattle.std.proofs.Common.{◌<◌, ◌∙◌, length, sym, ap, arith}
use Rattle.vq_model.specs.Plan.{Plan}
use Rattle.vq_core.proofs.GuardLaws.{start_iff, start_let}
use Rattle.vq_core.proofs.Tests.{never}
use Rattle.std.proofs.lemmas.Bool.{false≢true}
use Rattle.vq_core.proofs.state.Core.can_start.Goals as goal

pub returns-then-not-may_start : goal.returns-then-not-may_start
returns-then-not-may_start c =
    let n = c.jobs.ensures in
    let v = ap (λ (p : Plan). length p.jobs) c.plan.ensures.value in
    let test = c.if-job-jobs.false in
    let exists : c.args.job < length c.args.self.now.plan.jobs = omega arith in
    never (λ g. false≢true (sym c.if-not-may_start.true ∙ (c.may_start.ensures
    ∙ start_let c.args.self.now c.plan.ensures.course c.args.job exists g)))

pub returns : goal.returns
returns c =
    let n = c.jobs.ensures in
    let v = ap (λ (p : Plan). length p.jobs) c.plan.ensures.value in
    let test = c.if-job-jobs.false in
    let exists : c.args.job < length c.args.self.now.plan.jobs = omega arith in
    start_iff c.args.self.now c.plan.ensures.course c.args.job exists c.is_reached_after.result
    (sym c.is_started.ensures ∙ c.if-is_started.false)
    (sym c.may_start.ensures ∙ c.if-not-may_start.false)
    (sym c.previous_finished.ensures ∙ c.if-not-previous_finished.false)
    (sym c.idle_finished.ensures ∙ c.if-not-idle_finished.false) c.is_reached_after.ensures
