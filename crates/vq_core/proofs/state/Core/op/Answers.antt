use Rattle.std.proofs.Common.{◌≡◌, Some, subst}
use Rattle.std.specs.List.{slice_get}
use Rattle.vq_model.specs.Plan.{Plan}
use Rattle.vq_core.proofs.Courses.{plan_facts}
use Rattle.vq_core.proofs.Ops.{chain_exists, job_exists}
use Rattle.vq_core.proofs.state.Core.op.Goals as goal

pub returns-clause-op : goal.returns-clause-op
returns-clause-op c = subst (λ (p : Plan). slice_get p.ops c.args.op ≡ Some c.op.result) c.plan.ensures.value
    c.op.ensures

pub returns-clause-chain : goal.returns-clause-chain
returns-clause-chain c =
    chain_exists c.args.self.now.plan (plan_facts c.args.self.now c.plan.ensures.course) c.args.op c.op.result
    (returns-clause-op c)

pub returns-clause-job : goal.returns-clause-job
returns-clause-job c =
    job_exists c.args.self.now.plan (plan_facts c.args.self.now c.plan.ensures.course) c.args.op c.op.result
    (returns-clause-op c)
