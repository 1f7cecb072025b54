use Rattle.std.proofs.Common.{ap, length, arith}
use Rattle.vq_spec.proofs.Lowered.{few_jobs}
use Rattle.vq_spec.proofs.lowering.lower_jobs.Goals as goal

pub overflow_cast-j-end : goal.overflow_cast-j-end
overflow_cast-j-end c = omega
    (arith, few_jobs c.args.script.now c.requires, ap length c.as_slice.ensures)
