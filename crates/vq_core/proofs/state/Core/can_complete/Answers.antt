use Rattle.std.proofs.Common.{◌∙◌, ℕ, sym, subst}
use Rattle.std.specs.Prelude.{IsTrue, ◌↔◌}
use Rattle.vq_core.proofs.GuardLaws.{complete_iff}
use Rattle.std.specs.Prelude.{nat_eq}
use Rattle.vq_point_laws.specs.Points.{CanComplete}
use Rattle.vq_core.specs.CoreState.{world}
use Rattle.vq_core.proofs.state.Core.can_complete.Goals as goal

pub returns : goal.returns
returns c =
    subst (λ (n : ℕ). IsTrue (nat_eq c.op-chain.result.index n) ↔ CanComplete c.args.self.now.plan (world
    c.args.self.now) c.args.op) (sym c.completed.ensures)
    (complete_iff c.args.self.now c.plan.ensures.course c.args.op c.op-chain.result c.op-chain.ensures.op
    c.timeline.result.now c.timeline.ensures.lists c.timeline.ensures.kept
    (sym c.is_bound.ensures ∙ c.if-not-is_bound.false)
    (sym c.is_signaled.ensures ∙ c.if-not-is_signaled.false))
