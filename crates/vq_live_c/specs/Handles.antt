-- What a handle owns.
use base.Fml.{Fml}
use denote.RawPtr.{Ptr}
use Rattle.std.specs.Prelude.{Option}
use Rattle.std.specs.declared.alloc.Global.{Global}
use Rattle.vq_live.specs.Live.{Live}
use Rattle.vq_live.specs.contracts.live.LiveTimeline.{the_row}
use Rattle.vq_loose.specs.Slots.{slot_owns}

-- the timeline lies at p, and its block may be freed; or there is none, and p is null
abbrev pub holds : Global → Ptr → Option Live → Fml
holds = slot_owns the_row
