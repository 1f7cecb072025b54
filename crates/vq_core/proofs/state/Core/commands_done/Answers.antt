use Rattle.std.proofs.Common.{◌≡◌, length, sym, ap, ◌∙◌, subst, Some}
use Rattle.std.specs.Prelude.{nat_eq}
use Rattle.std.specs.List.{slice_get}
use Rattle.vq_model.specs.Plan.{Plan, commands_of}
use Rattle.vq_ground.specs.Lists.{has}
use Rattle.vq_core.specs.CoreState.{world}
use Rattle.vq_core.proofs.Jobs.{all_test, commands_are}
use Rattle.vq_core.proofs.state.Core.commands_done.Goals as goal

pub returns : goal.returns
returns c =
    let p = c.args.self.now.plan in
    let j = c.args.job in
    let at = subst (λ (p : Plan). slice_get p.jobs j ≡ Some c.job.result.now) c.plan.ensures.value c.job.ensures in
    let size = c.len.ensures ∙ ap length (sym (commands_are p j c.job.result.now at)) in
    ap (nat_eq c.job_state.result.commands) size
    ∙ all_test (has (world c.args.self.now).machine.progress.applied) (commands_of p j)
    c.job_state.result.commands c.job_state.ensures.first_commands
