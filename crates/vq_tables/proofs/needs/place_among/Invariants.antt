use Rattle.std.proofs.Common.{◌≡◌, ◌+◌, drop}
use Rattle.std.specs.List.{position_or_len}
use Rattle.vq_point_laws.specs.Points.{resolves}
use Rattle.vq_tables.proofs.needs.place_among.Given as goal

abbrev pub invariant-loop-need : goal.invariant-loop-need
invariant-loop-need l =
    (l.place ≡ l.need-index) × (position_or_len (resolves l.plan l.op) l.needs ≡ l.place + position_or_len (resolves
    l.plan l.op) (drop l.need-index l.needs))
