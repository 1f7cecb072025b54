use Rattle.std.proofs.Common.{ℕ, List, sym, ap, ◌∙◌}
use Rattle.std.specs.List.{slice_get}
use Rattle.vq_model.specs.Plan.{Plan, commands_of}
use Rattle.vq_ground.specs.Lists.{has}
use Rattle.vq_core_laws.proofs.Cited.{next_is}
use Rattle.vq_core.specs.CoreState.{world}
use Rattle.vq_core.proofs.state.Core.next_command.Goals as goal

pub returns : goal.returns
returns c =
    let p = c.args.self.now.plan in
    let j = c.args.job in
    let items = c.commands_of.ensures ∙ ap (λ (q : Plan). commands_of q j) c.plan.ensures.value in
    c.element.ensures ∙ (ap (λ (xs : List ℕ). slice_get xs c.job_state.result.commands) items
    ∙ sym (next_is (has (world c.args.self.now).machine.progress.applied) (commands_of p j)
    c.job_state.result.commands c.job_state.ensures.first_commands))
