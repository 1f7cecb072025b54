-- A lock and its guard, as contracts name them. This project's own.
use Rattle.std.specs.Prelude.{◌≡◌, [], ◌∷◌}
use Rattle.vq_lock.specs.declared.lock.KeyedLock.{KeyedLock}
use Rattle.vq_lock.specs.declared.lock.Guard.{Guard}
use Rattle.vq_lock.specs.Locks.{turn}

module _ {K T : Type 0} where
  -- what the lock was made for
  abbrev pub key_of : KeyedLock K T → K
  key_of l = l.table.shared.key

  -- the guard has this content of this lock
  abbrev pub Has : KeyedLock K T → Guard K T → T → Type 0
  Has l g x = (g.seat.table_id ≡ l.table.shared.table_id) × (g.seat.me ≡ (turn (key_of l) 1, (0, x) ∷ []))
