use Rattle.std.proofs.Common.{◌∙◌, sym}
use Rattle.vq_model.specs.Edges.{AtEnd}
use Rattle.vq_core.specs.CoreState.{world}
use Rattle.vq_core.proofs.Jobs.{for_all, for_any}
use Rattle.vq_core.proofs.state.Core.is_reached_at_end.Goals as goal

pub returns-then-waits_for_any : goal.returns-then-waits_for_any
returns-then-waits_for_any c =
    let s = c.args.self.now in
    c.any_at_end.ensures ∙ sym (for_any s.plan (world s).machine.progress.payload c.args.job AtEnd
    (sym c.waits_for_any.ensures ∙ c.if-waits_for_any.true))

pub returns : goal.returns
returns c =
    let s = c.args.self.now in
    c.all_at_end.ensures ∙ sym (for_all s.plan (world s).machine.progress.payload c.args.job AtEnd
    (sym c.waits_for_any.ensures ∙ c.if-waits_for_any.false))
