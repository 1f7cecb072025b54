use Rattle.std.proofs.Common.{◌≤◌, Bool, true, false, if◌then◌else◌, arith}
use Rattle.vq_model.specs.Plan.{is_silent}
use Rattle.vq_spec.proofs.TextRooms.{one_more}
use Rattle.vq_spec.proofs.text_room.asking.Goals as goal

at_most_one : (b : Bool) → (if b then 0 else 1) ≤ 1
at_most_one true = omega arith
at_most_one false = omega arith

pub loop-job-preserved : goal.loop-job-preserved
loop-job-preserved c =
    let one = at_most_one (is_silent c.job.result.now.question) in
    let is = c.asks-count.ensures in
    let before = c.loop-job.invariant.1 in (
      one_more c.args.plan.now c.loop-job.job c.loop-job.count c.asks-count.result c.job.result.now c.job.ensures is
          c.loop-job.invariant.0,
      omega arith,
    )
