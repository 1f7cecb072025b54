-- The rule of a lock: while its word is 0 the content is at home and fits the key, and else at most one seat has it.
-- This project's own.
use Rattle.std.specs.Prelude.{ℕ, [], ◌∷◌, ◌≡◌, ◌≢◌, length, slice_index}
use mathlib.Core.Option.{some}
use lib.ListN.{get_elem?}
use Rattle.atomic_table.specs.Table as Table
use Rattle.atomic_table.specs.Table.{State, Me}
use Rattle.vq_lock.specs.declared.parts.Turn.{Turn}

abbrev pub turn : {K : Type 0} → K → ℕ → Turn K
turn h n = record { home = h; holds = n }

pub record IsLocked {K T : Type 0} (fits : K → T → Type 0) (h : K) (s : State T (Turn K)) : Type 0 where
  pub wide : length s.words ≡ 1
  pub free : slice_index s.words 0 ≡ 0 → (x : T) × (s.homes ≡ some x ∷ []) × fits h x
  pub held : (i : ℕ) (v : Turn K) → get_elem? s.views i ≡ some v → v.holds ≡ 1 → slice_index s.words 0 ≢ 0
  pub one : (i k : ℕ) (v w : Turn K) → get_elem? s.views i ≡ some v → get_elem? s.views k ≡ some w →
      v.holds ≡ 1 → w.holds ≡ 1 → i ≡ k

module _ {K T : Type 0} (fits : K → T → Type 0) where
  -- the lock was free, and the seat has the content now; or it was taken
  abbrev pub taken : Table.Step T → Me T (Turn K) → ℕ → Me T (Turn K) → Type 0
  taken st m n m' =
      (n ≡ 0 → (x : T) × (m' ≡ (turn m.0.home 1, (0, x) ∷ [])) × fits m.0.home x)
      × (n ≢ 0 → m' ≡ (turn m.0.home 0, []))

abbrev pub given : {K T : Type 0} → Table.Step T → Me T (Turn K) → ℕ → Me T (Turn K) → Type 0
given st m n m' = Unit {0}

abbrev pub sat : {K T : Type 0} → Table.Step T → Me T (Turn K) → ℕ → Me T (Turn K) → Type 0
sat st m n m' = m' ≡ (turn m.0.home 0, [])
