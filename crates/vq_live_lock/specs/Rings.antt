-- The rule of a bell, a word that counts its rings, and what its seats know. This project's own.
use Rattle.std.specs.Prelude.{ℕ, [], ◌≡◌, ◌≤◌, ◌<◌, ◌%◌, ◌^◌, length, slice_index}
use mathlib.Core.Option.{some}
use lib.ListN.{get_elem?}
use Rattle.atomic_table.specs.Table as Table
use Rattle.atomic_table.specs.Table.{State, Me}
use Rattle.vq_live_lock.specs.declared.counting.Times.{Times}

-- a seat knows that the bell was rung at least so often
abbrev pub times : ℕ → Times
times n = record { rings = n }

-- the word is the number of rings, modulo 2^64, and no seat knows of more
pub record IsCounted {S : Type 0} (s : State S Times) : Type 0 where
  pub wide : length s.words ≡ 1
  pub total : ℕ
  pub word : slice_index s.words 0 ≡ total % 2 ^ 64
  pub below : (i : ℕ) (v : Times) → get_elem? s.views i ≡ some v → v.rings ≤ total

-- a look finds no fewer rings than were known, and knows them
abbrev pub heard : {S : Type 0} → Table.Step S → Me S Times → ℕ → Me S Times → Type 0
heard st m n m' = (t : ℕ) × (m.0.rings ≤ t) × (n ≡ t % 2 ^ 64) × (m' ≡ (times t, []))

-- a ring is one more than there were, and is known
abbrev pub rang : {S : Type 0} → Table.Step S → Me S Times → ℕ → Me S Times → Type 0
rang st m n m' = (t : ℕ) × (m.0.rings < t) × (m' ≡ (times t, []))
