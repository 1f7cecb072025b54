use Rattle.std.proofs.Common.{◌<◌, ◌∙◌, Some, length, sym, ap, arith}
use Rattle.vq_model.specs.Plan.{Plan}
use Rattle.vq_core.proofs.GuardLaws.{apply_iff}
use Rattle.vq_core.proofs.state.Core.can_apply.Goals as goal

pub returns : goal.returns
returns c =
    let n = c.jobs.ensures in
    let v = ap (λ (p : Plan). length p.jobs) c.plan.ensures.value in
    let test = c.if-job-jobs.false in
    let exists : c.args.job < length c.args.self.now.plan.jobs = omega arith in
    let is = sym c.next_command.ensures ∙ (c.in-Some.is ∙ ap Some c.if-next-command.false) in
    apply_iff c.args.self.now c.plan.ensures.course c.args.job exists c.args.command c.job_state.result.commands
    c.is_reached_after.result
    (sym c.is_started.ensures ∙ c.if-not-is_started.false)
    (sym c.is_finished.ensures ∙ c.if-is_finished.false) is c.job_state.ensures.first_commands
    c.is_reached_after.ensures
