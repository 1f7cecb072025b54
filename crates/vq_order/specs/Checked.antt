-- What the parts of a check give.
use Rattle.std.specs.Prelude.{◌≡◌, Result, Ok, Err}
use Rattle.vq_model.specs.declared.plan.OrderFault.{OrderFault}
use Rattle.vq_model.specs.declared.plan.OrderFault.TheVariants.{Memory}
use Rattle.vq_model.specs.Plan.{Plan}
use Rattle.vq_model.specs.Checks.{IsFirstPlanFault}
use Rattle.vq_clocks.specs.VectorClocks.{IsComplete}

-- the plan itself, of which the slow run then leaves no job, or its first fault, or want of memory
abbrev pub KeepsPlanOr : Plan → Result Plan OrderFault → Type 0
KeepsPlanOr p (Ok q) = (q ≡ p) × IsComplete p
KeepsPlanOr p (Err Memory) = Unit {0}
KeepsPlanOr p (Err fault) = IsFirstPlanFault p fault
