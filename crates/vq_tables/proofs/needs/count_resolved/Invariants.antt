use Rattle.std.proofs.Common.{◌≡◌, take}
use Rattle.std.specs.Prelude.{count_by}
use Rattle.vq_point_laws.specs.Points.{resolves}
use Rattle.vq_tables.proofs.needs.count_resolved.Given as goal

abbrev pub invariant-loop-need : goal.invariant-loop-need
invariant-loop-need l =
    l.count ≡ count_by (resolves l.plan l.op) (take l.need-index l.needs)
