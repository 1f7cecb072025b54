-- What a handle owns. This project's own.
use base.Fml.{Fml}
use denote.RawPtr.{Ptr}
use Rattle.std.specs.Prelude.{Option}
use Rattle.std.specs.declared.alloc.Global.{Global}
use Rattle.vq_c.specs.declared.object.Object.{Object}
use Rattle.vq_c.specs.contracts.object.Object.{the_row}
use Rattle.vq_loose.specs.Slots.{slot_owns}

-- the object lies at p, and its block may be freed; or there is none, and p is null
abbrev pub holds : Global → Ptr → Option Object → Fml
holds = slot_owns the_row
