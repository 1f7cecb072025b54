-- A chain in its fields.
use Rattle.std.specs.Prelude.{◌≡◌, ◌<◌, length, map}
use Rattle.vq_model.specs.Checks.{IsLawful}
use Rattle.vq_model.specs.LoweredPlans.{IsPlan}
use Rattle.vq_model.specs.Plan.{chain, initial, value}
use Rattle.vq_payload.specs.Chains.{PlanChain}
use Rattle.vq_payload.specs.declared.chain.Chain.TheInside.{Inside}

abbrev pub chain_in : Inside → PlanChain
chain_in a = record { plan = a.plan.value; number = a.number }

-- the fields are what the plan says of the chain, and the plan is lawful
pub record AreFields (a : Inside) : Type 0 where
  pub read : IsPlan a.plan.value
  pub lawful : IsLawful a.plan.value
  pub exists : a.number < length a.plan.value.chains
  pub first : a.initial ≡ initial a.plan.value a.number
  pub operations : a.ops.items ≡ chain a.plan.value a.number
  pub their_values : a.values.items ≡ map (value a.plan.value) (chain a.plan.value a.number)
