-- What a handle owns.
use base.Fml.{Fml}
use denote.RawPtr.{Ptr}
use Rattle.std.specs.Prelude.{Option}
use Rattle.std.specs.declared.alloc.Global.{Global}
use Rattle.vq_layer.specs.Layer.{Layer}
use Rattle.vq_layer.specs.contracts.layer.LiveLayer.{the_row}
use Rattle.vq_loose.specs.Slots.{slot_owns}

-- the layer lies at p, and its block may be freed; or there is none, and p is null
abbrev pub holds : Global → Ptr → Option Layer → Fml
holds = slot_owns the_row
