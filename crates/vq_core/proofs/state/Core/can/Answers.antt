use Rattle.std.proofs.Common.{sym, subst}
use Rattle.std.specs.Prelude.{IsTrue, ◌↔◌}
use Rattle.vq_model.specs.declared.plan.Event.{Event}
use Rattle.vq_point_laws.specs.Points.{CanCome}
use Rattle.vq_core.specs.CoreState.{world}
use Rattle.vq_core.proofs.state.Core.can.Goals as goal

pub returns-in-Apply : goal.returns-in-Apply
returns-in-Apply c =
    subst (λ (x : Event). IsTrue c.can_apply.result ↔ CanCome c.args.self.now.plan (world c.args.self.now) x) (sym
    c.in-Apply.is) c.can_apply.ensures
