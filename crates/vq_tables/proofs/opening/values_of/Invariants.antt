use Rattle.std.proofs.Common.{◌≡◌, map, take}
use Rattle.vq_model.specs.Plan.{value, chain}
use Rattle.vq_tables.proofs.opening.values_of.Given as goal

abbrev pub invariant-loop-op : goal.invariant-loop-op
invariant-loop-op l =
    l.values.items ≡ map (value l.plan) (take l.op-index (chain l.plan l.t))
