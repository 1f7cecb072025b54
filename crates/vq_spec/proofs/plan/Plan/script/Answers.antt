use Rattle.std.proofs.Common.{subst}
use Rattle.vq_model.specs.LoweredPlans.{IsPlan}
use Rattle.vq_spec.proofs.KeptTables.{is_plan}
use Rattle.vq_spec.proofs.plan.Plan.script.Goals as goal

pub returns-clause-plan : goal.returns-clause-plan
returns-clause-plan c = subst IsPlan c.self.view_is
    (is_plan c.self.inside.script c.self.inside.tables c.self.invariant)
