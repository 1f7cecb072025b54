use Rattle.std.proofs.Common.{◌≡◌, ℕ, Some, take, true}
use Rattle.vq_model.specs.Plan.{chain_of}
use Rattle.vq_ground.specs.Lists.{has}
use Rattle.vq_model.specs.Sure.{IsSure}
use Rattle.vq_order.proofs.busy.is_in_use.Given as goal

abbrev pub invariant-loop-op : goal.invariant-loop-op
invariant-loop-op l =
    (e : ℕ) → has (take l.op-index l.op-items) e ≡ true → chain_of l.order e ≡ Some l.fence → IsSure l.order e l.j
