-- What lowering answers, and the plans that it gives. This project's own.
use Rattle.std.specs.Prelude.{None, ◌≡◌, Result, Ok, Err}
use Rattle.vq_model.specs.declared.script.Script.{Script}
use Rattle.vq_model.specs.declared.plan.PlanFault.{PlanFault}
use Rattle.vq_model.specs.declared.plan.PlanFault.TheVariants.{Memory}
use Rattle.vq_model.specs.Plan.{Plan}
use Rattle.vq_model.specs.Lowering.{plan_of}
use Rattle.vq_model.specs.SameScript.{IsRead}
use Rattle.vq_model.specs.LoweringFaults.{IsFirstLoweringFault, lowering_fault}

-- What lowering a script answers: its plan exactly where there is no fault, else the first fault,
-- or want of memory.
abbrev pub Lowers : Script → Result Plan PlanFault → Type 0
Lowers s (Ok p) = (lowering_fault s ≡ None) × (p ≡ plan_of s)
Lowers s (Err Memory) = Unit {0}
Lowers s (Err fault) = IsFirstLoweringFault s fault

-- A plan of a script: lowering a script that was read gave it.
pub record IsPlan (p : Plan) : Type 0 where
  pub of_script : IsRead p.script
  pub faultless : lowering_fault p.script ≡ None
  pub lowered : p ≡ plan_of p.script
