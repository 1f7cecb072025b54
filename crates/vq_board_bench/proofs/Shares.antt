-- How many points the shelf of a chain may make: one for each operation of the chain.
use Rattle.std.proofs.Common.{ℕ, ◌≤◌, length, arith}
use Rattle.vq_model.specs.LoweredPlans.{IsPlan}
use Rattle.vq_model.specs.Plan.{Plan, chain}
use Rattle.vq_board_laws.proofs.Cited.{share_is_chain}
use Rattle.vq_board_bench.specs.Making.{HasShare}

pub has_share : (p : Plan) (t n : ℕ) → IsPlan p → n ≤ length (chain p t) → HasShare p t n
has_share p t n plan few = let share = share_is_chain p plan t in omega arith
