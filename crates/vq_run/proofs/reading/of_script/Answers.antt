use Rattle.vq_run.proofs.Endings.{lowered_again, lowered_read, refused_outcome}
use Rattle.vq_run.proofs.reading.of_script.Goals as goal

pub returns-in_ok-plan_refusal-in-Err : goal.returns-in_ok-plan_refusal-in-Err
returns-in_ok-plan_refusal-in-Err c task input short read =
    refused_outcome _ _ _ _ _ read _ _ short c.in-Err.ensures
    (rw c.plan_fault_origin-fault.ensures at c.in_ok-plan_refusal-in-Err.ensures)

pub of_plan-requires : goal.of_plan-requires
of_plan-requires c = lowered_again _ _ c.in-Ok.ensures

pub returns-in-Ok : goal.returns-in-Ok
returns-in-Ok c task input short read =
    c.of_plan.ensures task input short (lowered_read _ _ _ _ _ _ read c.in-Ok.ensures)
