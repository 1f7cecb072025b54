use Rattle.std.proofs.Common.{◌≡◌, ◌≤◌, drop, length}
use Rattle.std.specs.Vec.{vec_capacity, vec_len}
use Rattle.vq_layer.proofs.Reserving.{Goes}
use Rattle.vq_layer.proofs.signals.take_all.Given as goal

abbrev pub invariant-loop-w : goal.invariant-loop-w
invariant-loop-w l =
    Goes l.initial.timelines l.wanted l.timelines (drop l.w-index l.wanted) l.signals.items
    × (vec_len l.signals ≡ l.w-index)
    × (length l.wanted ≤ vec_capacity l.signals)
