use Rattle.vq_reading_laws.proofs.Cited.{read_batches, read_steps}
use Rattle.vq_spec.proofs.Lowered.{read_job}
use Rattle.vq_spec.proofs.UseWalks.{reset_exists}
use Rattle.vq_spec.proofs.uses.use_jobs.Goals as goal
use Rattle.std.proofs.Common.{arith, ap, length, ◌<◌}

pub use_batch-requires-clause-valid : goal.use_batch-requires-clause-valid
use_batch-requires-clause-valid c =
    let s = c.args.script.now in
    let exists : c.loop-job.job-index < length s.jobs = omega
    (arith, ap length c.as_slice-job-items.ensures) in
    read_batches s c.requires.read c.loop-job.job-index c.in-Batch.batch
    (read_job s.jobs c.as_slice-job-items.result.now c.loop-job.job-index c.job-item.result _
    c.as_slice-job-items.ensures exists c.job-item.is c.in-Batch.is)

pub use_step-requires : goal.use_step-requires
use_step-requires c = λ f e.
    let s = c.args.script.now in
    let exists : c.loop-job.job-index < length s.jobs = omega
    (arith, ap length c.as_slice-job-items.ensures) in
    let valid = read_steps s c.requires.read c.loop-job.job-index c.in-Host.host
    (read_job s.jobs c.as_slice-job-items.result.now c.loop-job.job-index c.job-item.result _
    c.as_slice-job-items.ensures exists c.job-item.is c.in-Host.is) in
    let inside = reset_exists s c.in-Host.host.step valid f e in
    omega (arith, c.loop-job.auto.last, c.requires.kept)
