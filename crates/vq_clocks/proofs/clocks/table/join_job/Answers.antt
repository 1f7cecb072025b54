use Rattle.std.proofs.Common.{arith}
use Rattle.vq_plan_laws.proofs.Cited.{plan_lanes}
use Rattle.vq_clocks.proofs.clocks.table.join_job.Goals as goal

pub overflow_add-job : goal.overflow_add-job
overflow_add-job c =
    let few = (plan_lanes c.args.run.now c.requires.complete.plan).few_jobs in
    omega arith
