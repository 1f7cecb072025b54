use Rattle.std.proofs.Common.{◌≡◌, false, take, ◌&&◌, if◌then◌else◌}
use Rattle.std.specs.Prelude.{nat_lt, nat_le}
use Rattle.std.specs.List.{list_any}
use Rattle.vq_point_laws.specs.Points.{resolves}
use Rattle.vq_tables.proofs.needs.any_resolved.Given as goal

abbrev pub invariant-loop-need : goal.invariant-loop-need
invariant-loop-need l =
    list_any (λ n. (if l.started then nat_lt 1 n.from else nat_le n.from 1) && resolves l.plan l.op n) (take
    l.need-index l.needs) ≡ false
