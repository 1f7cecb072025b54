-- The value of a slot, lent.
use denote.RattleType.{RattleType}
use Rattle.std.specs.Prelude.{Some}
use Rattle.std.specs.Borrow.{Lends, MutBor, Fml}
use Rattle.vq_loose.specs.declared.slot.Slot.{Slot}
use Rattle.vq_loose.specs.contracts.slot.Slot.{the_row}

-- s with the value x
abbrev pub with_value : {X : Type 0} → Slot X → X → Slot X
with_value s x = record s { value = Some x }

-- s ends with the last value behind r
abbrev pub LendsValue : (R : RattleType) → MutBor (Slot R.Denot) → MutBor R.Denot → Fml
LendsValue R s r = Lends (the_row R) R s r (with_value s.now)
