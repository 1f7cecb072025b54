-- What a plan names is there.
use Rattle.std.proofs.Common.{◌≡◌, ◌<◌, ℕ, nat_le, Some, length}
use Rattle.vq_model.specs.Checks.{IsLawful}
use Rattle.vq_model.specs.LoweredPlans.{IsPlan}
use Rattle.vq_model.specs.Plan.{Plan, chain, value, resolver}
use Rattle.vq_model.proofs.Plans.{op_within}
use Rattle.vq_ground.proofs.Searches.{find_member}
use Rattle.vq_turn_laws.proofs.Cited.{plan_orderly}

pub resolver_exists : (p : Plan) → IsPlan p → IsLawful p → (t v e : ℕ) → resolver p t v ≡ Some e → e < length p.ops
resolver_exists p i l t v e h =
    op_within p e t ((plan_orderly p i l).well_formed.of_chain e t (find_member (λ x. nat_le v (value p x)) (chain p t)
    e h))
