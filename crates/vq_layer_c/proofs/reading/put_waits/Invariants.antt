use Rattle.std.proofs.Common.{◌≡◌, map, take, drop, length}
use Rattle.vq_layer_c.specs.Told.{wait_row}
use Rattle.vq_layer_c.proofs.reading.put_waits.Given as goal

abbrev pub invariant-loop-i : goal.invariant-loop-i
invariant-loop-i l =
    (take l.i l.room ≡ map wait_row (take l.i l.waits)) × (drop l.i l.room ≡ drop l.i l.initial.room)
    × (length l.room ≡ length l.initial.room)
