use Rattle.std.proofs.Common.{◌<◌, ◌∙◌, ℕ, List, length, sym, ap, subst}
use Rattle.std.specs.Prelude.{All}
use Rattle.vq_model.specs.Plan.{Plan, signals_of}
use Rattle.vq_core.proofs.Courses.{plan_facts}
use Rattle.vq_core.proofs.Jobs.{signals_exist}
use Rattle.vq_core.proofs.state.Core.signals.Goals as goal

pub returns-clause-value : goal.returns-clause-value
returns-clause-value c =
    c.signals_of.ensures ∙ ap (λ (q : Plan). signals_of q c.args.job) c.plan.ensures.value

pub returns-clause-exist : goal.returns-clause-exist
returns-clause-exist c =
    let p = c.args.self.now.plan in
    subst (λ (es : List ℕ). All (λ (e : ℕ). e < length p.ops) es) (sym (returns-clause-value c))
    (signals_exist p (plan_facts c.args.self.now c.plan.ensures.course) c.args.job)
