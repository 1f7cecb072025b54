-- What the check of a plan answers, and which of some numbers is the greatest, for the calls that ask an order. This
-- project's own.
use Rattle.std.specs.Prelude.{◌≡◌, Result, Ok, Err, ℕ, ◌≤◌}
use Rattle.vq_model.specs.declared.plan.OrderFault.{OrderFault}
use Rattle.vq_model.specs.declared.plan.OrderFault.TheVariants.{Memory}
use Rattle.vq_model.specs.Plan.{Plan}
use Rattle.vq_model.specs.Checks.{IsFirstPlanFault, IsLawful}

-- What a check of a plan answers: the plan exactly where it is lawful, else its first fault, or
-- want of memory.
abbrev pub Checks : Plan → Result Plan OrderFault → Type 0
Checks p (Ok q) = (q ≡ p) × IsLawful p
Checks p (Err Memory) = Unit {0}
Checks p (Err fault) = IsFirstPlanFault p fault

-- the greatest number of which something holds
pub record IsGreatest (P : ℕ → Type 0) (n : ℕ) : Type 0 where
  pub holds : P n
  pub greatest : (m : ℕ) → P m → m ≤ n
