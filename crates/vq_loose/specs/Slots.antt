-- What stands where C keeps a value: its pointer, or null.
use base.Fml.{Fml, feq}
use denote.RattleType.{RattleType}
use denote.RawPtr.{Ptr, null_ptr}
use Rattle.std.specs.Prelude.{Option, Some, None}
use Rattle.std.specs.Box.Ownership.{box_owns}
use Rattle.std.specs.declared.alloc.Global.{Global}
use Rattle.std.specs.contracts.impls.GlobalAllocator.TheImpl.{ghosts}

-- the value lies at p, and its block may be freed; or there is none, and p is null
abbrev pub slot_owns : (R : RattleType) → Global → Ptr → Option R.Denot → Fml
slot_owns R alloc p None = feq Ptr p null_ptr
slot_owns R alloc p (Some x) = box_owns (ghosts.dealloc_token alloc) R p x
