use Rattle.std.proofs.Common.{◌∙◌, ap, sym, get_or}
use Rattle.vq_ground.proofs.Gets.{has_at}
use Rattle.vq_ground.specs.Lists.{has}
use Rattle.vq_spec.proofs.SlowRuns.{zeros_are, after_job, slow_exists}
use Rattle.vq_spec.proofs.slow.apply_in_order.Goals as goal

pub loop-j-init : goal.loop-j-init
loop-j-init c =
    let made = c.in_ok-buffers.ensures {u = tt} in
    let begins = zeros_are c.args.plan.now c.script.ensures.plan c.script.result.now
    c.script.ensures.script c.in_ok-buffers.buffers made.bytes in
    record { bytes = begins.0; sizes = begins.1 }

pub apply_job-requires-clause-exists : goal.apply_job-requires-clause-exists
apply_job-requires-clause-exists c =
    let p = c.args.plan.now in
    let order = c.args.order.now in
    let k = c.loop-j.j-index in
    slow_exists p (get_or order k 0)
    (ap (λ xs. has xs (get_or order k 0)) (sym c.requires) ∙ has_at order k c.loop-j-test.true)

pub loop-j-preserved : goal.loop-j-preserved
loop-j-preserved c =
    record {
      bytes = after_job c.args.plan.now c.args.order.now c.loop-j.j-index c.loop-j-test.true
          c.loop-j.buffers c.apply_job.new.buffers c.loop-j.invariant.bytes c.apply_job.ensures.bytes;
      sizes = c.apply_job.ensures.sizes;
    }
