-- A chain of a plan, with the values that its payload takes. This project's own.
use Rattle.std.specs.Prelude.{ℕ, zero, suc, List, map}
use Rattle.std.specs.List.{slice_index_or}
use Rattle.vq_model.specs.Plan.{Plan, chain, initial, value}

pub record PlanChain : Type 0 where
  pub plan : Plan
  pub number : ℕ

-- its operations, in the order of their values
abbrev pub operations : PlanChain → List ℕ
operations c = chain c.plan c.number

-- the payload after so many of the operations
abbrev pub value_up_to : Plan → ℕ → ℕ → ℕ
value_up_to p t zero = initial p t
value_up_to p t (suc n) = slice_index_or (map (value p) (chain p t)) n 0
