use Rattle.std.proofs.Common.{subst, sym}
use Rattle.vq_run.specs.Readings.{IsLawfulPlan}
use Rattle.vq_run.proofs.Endings.{unlawful_outcome}
use Rattle.vq_run.proofs.reading.of_plan.Goals as goal

pub returns-in-Ok : goal.returns-in-Ok
returns-in-Ok c task input short read =
    subst (λ p. IsLawfulPlan task input p c.args.turns c.args.from) (sym c.in-Ok.ensures.0)
    (record { short = short; read = read; lowers = c.requires; lawful = c.in-Ok.ensures.1 })

pub returns-in_ok-order_refusal-in-Err : goal.returns-in_ok-order_refusal-in-Err
returns-in_ok-order_refusal-in-Err c task input short read =
    unlawful_outcome _ _ _ _ _ short read c.requires _ _
    c.in-Err.ensures (rw c.order_fault_origin-fault.ensures at c.in_ok-order_refusal-in-Err.ensures)
