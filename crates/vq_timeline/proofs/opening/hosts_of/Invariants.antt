use Rattle.std.proofs.Common.{◌≡◌, map, take}
use Rattle.vq_model.specs.Plan.{chain}
use Rattle.vq_timeline_laws.specs.ChainOps.{of_host}
use Rattle.vq_timeline.proofs.opening.hosts_of.Given as goal

abbrev pub invariant-loop-op : goal.invariant-loop-op
invariant-loop-op l = l.hosts.items ≡ map (of_host l.plan) (take l.op-index (chain l.plan l.chain))
