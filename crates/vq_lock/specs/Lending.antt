-- What a guard has after a write through the content that was lent. This project's own.
use Rattle.std.specs.Borrow.{Lends, MutBor, Fml}
use denote.RattleType.{RattleType}
use Rattle.atomic_table.specs.Lent.{seat_with}
use Rattle.vq_lock.specs.declared.lock.Guard.{Guard}
use Rattle.vq_lock.specs.contracts.lock.Guard.{the_row}

-- the guard, with w as the content
abbrev pub guard_with : {K T : Type 0} → Guard K T → T → Guard K T
guard_with g w = record { seat = seat_with g.seat 0 w }

abbrev pub LendsContent : (K T : RattleType) → MutBor (Guard K.Denot T.Denot) → MutBor T.Denot → Fml
LendsContent K T s r = Lends (the_row K T) T s r (guard_with s.now)
