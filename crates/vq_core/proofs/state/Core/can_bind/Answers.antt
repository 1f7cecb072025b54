use Rattle.std.proofs.Common.{◌∙◌, ℕ, sym, subst}
use Rattle.std.specs.Prelude.{IsTrue, ◌↔◌}
use Rattle.vq_core.proofs.GuardLaws.{bind_iff, bind_ready}
use Rattle.vq_core.proofs.Tests.{never, confirmed}
use Rattle.std.specs.Prelude.{nat_eq}
use Rattle.std.proofs.lemmas.Bool.{false≢true}
use Rattle.vq_point_laws.specs.Points.{CanBind}
use Rattle.vq_core.specs.CoreState.{world}
use Rattle.vq_core.proofs.state.Core.can_bind.Goals as goal

pub returns-then-not-may_bind : goal.returns-then-not-may_bind
returns-then-not-may_bind c =
    never (λ g. false≢true (sym c.if-not-may_bind.true ∙ (c.may_bind.ensures
    ∙ bind_ready c.args.self.now c.plan.ensures.course c.args.op c.op-chain.result c.op-chain.ensures.op
    c.args.point g)))

pub returns : goal.returns
returns c =
    subst (λ (n : ℕ). IsTrue (nat_eq c.op-chain.result.index n) ↔ CanBind c.args.self.now.plan (world
    c.args.self.now) c.args.op c.args.point) (sym c.bound.ensures)
    (bind_iff c.args.self.now c.plan.ensures.course c.args.op c.op-chain.result c.op-chain.ensures.op
    c.timeline.result.now c.timeline.ensures.lists c.timeline.ensures.kept c.args.point
    (confirmed c.carries.result c.carries.ensures.carries c.if-not-carries.false)
    (sym c.may_bind.ensures ∙ c.if-not-may_bind.false))
