use Rattle.std.proofs.Common.{◌≡◌, map, take}
use Rattle.vq_spec.specs.Counts.{need_by}
use Rattle.vq_spec.proofs.lowering.lower_needs.Given as goal

abbrev pub invariant-loop-wait : goal.invariant-loop-wait
invariant-loop-wait l = l.needs.items ≡ map (need_by l.script l.counts) (take l.wait-index l.waits)
