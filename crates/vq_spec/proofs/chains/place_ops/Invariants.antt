use Rattle.std.proofs.Common.{◌≡◌, ◌++◌, map, take, drop}
use Rattle.std.specs.List.{enumerate_from}
use Rattle.vq_spec.specs.ChainParts.{placed}
use Rattle.vq_spec.proofs.chains.place_ops.Given as goal

abbrev pub invariant-loop-e : goal.invariant-loop-e
invariant-loop-e l =
    l.ops ≡ map (placed l.chains) (enumerate_from 0 (take l.e l.initial.ops)) ++ drop l.e l.initial.ops
