use Rattle.std.proofs.Common.{◌≡◌, map, take, drop, length}
use Rattle.vq_layer_c.specs.Told.{signal_row}
use Rattle.vq_layer_c.proofs.reading.put_signals.Given as goal

abbrev pub invariant-loop-i : goal.invariant-loop-i
invariant-loop-i l =
    (take l.i l.room ≡ map signal_row (take l.i l.signals)) × (drop l.i l.room ≡ drop l.i l.initial.room)
    × (length l.room ≡ length l.initial.room)
