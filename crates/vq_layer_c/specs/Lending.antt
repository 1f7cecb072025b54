-- A handle as a slot, lent.
use Rattle.std.specs.Borrow.{Lends, MutBor, Fml}
use Rattle.vq_layer.specs.Layer.{Layer}
use Rattle.vq_layer.specs.contracts.layer.LiveLayer as held
use Rattle.vq_loose.specs.declared.slot.Slot.{Slot}
use Rattle.vq_loose.specs.contracts.slot.Slot as slot
use Rattle.vq_layer_c.specs.declared.handle.Handle.{Handle}
use Rattle.vq_layer_c.specs.contracts.handle.Handle.{the_row}

abbrev pub slot_of : Handle → Slot Layer
slot_of h = record { at = h.at; alloc = h.alloc; value = h.value }

abbrev pub handle_of : Slot Layer → Handle
handle_of s = record { at = s.at; alloc = s.alloc; value = s.value }

-- h ends as the last slot behind r
abbrev pub LendsSlot : MutBor Handle → MutBor (Slot Layer) → Fml
LendsSlot h r = Lends the_row (slot.the_row held.the_row) h r handle_of
