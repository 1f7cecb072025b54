-- What a guard has after a write.
use Rattle.std.proofs.Common.{ap, ◌∷◌}
use Rattle.atomic_table.specs.Table.{Me, rest}
use Rattle.vq_lock.specs.declared.lock.KeyedLock.{KeyedLock}
use Rattle.vq_lock.specs.declared.lock.Guard.{Guard}
use Rattle.vq_lock.specs.declared.parts.Turn.{Turn}
use Rattle.vq_lock.specs.Named.{Has}
use Rattle.vq_lock.specs.Lending.{guard_with}

pub wrote : {K T : Type 0} (l : KeyedLock K T) (g : Guard K T) (x w : T) → Has l g x → Has l (guard_with g w) w
wrote {K} {T} l g x w has = (has.0, ap (λ (m : Me T (Turn K)). (m.0, (0, w) ∷ rest m.1)) has.1)
