-- The rule of a gauge, a word that never falls, with the notes that are left at it. This project's own.
use Rattle.std.specs.Prelude.{ℕ, [], Option, Some, None, ◌≡◌, ◌≤◌, ◌<◌, ◌+◌, ◌⊎◌, length, slice_index}
use mathlib.Core.Option as maybe
use mathlib.Core.Option.{some, none}
use lib.ListN.{get_elem?}
use Rattle.atomic_table.specs.Table as Table
use Rattle.atomic_table.specs.Table.{State, Me}
use Rattle.vq_live_lock.specs.declared.bell.Heard.{Heard}
use Rattle.vq_live_lock.specs.declared.rule.Known.{Known}

-- a note that is left, the least value that somebody waits for, is above this payload
abbrev pub IsAbove : Option ℕ → ℕ → Type 0
IsAbove None payload = Unit {0}
IsAbove (Some least) payload = payload < least

-- a note is left for this value, or for one below it
abbrev pub IsNoted : Option ℕ → ℕ → Type 0
IsNoted None value = ⊥
IsNoted (Some least) value = least ≤ value

-- What seats know: one that only reads knows that this value is reached. The pen knows it of the value that it wrote
-- last, and keeps the least value that is noted. A note is left for a value. Pen and note know how often the bell was
-- rung.
abbrev pub reads : ℕ → Known
reads n = record { floor = n; role = 0; least = None; rings = 0 }

abbrev pub pen_at : ℕ → Option ℕ → ℕ → Known
pen_at n least rings = record { floor = n; role = 1; least = least; rings = rings }

abbrev pub note_at : ℕ → ℕ → ℕ → Known
note_at n value rings = record { floor = n; role = 2; least = Some value; rings = rings }

-- the note that a pen hands out
abbrev pub note_of : Known → Known
note_of v = record { floor = v.floor; role = 2; least = v.least; rings = v.rings }

-- what is noted with the pen is noted for no greater value than this note's
abbrev pub Covers : Option ℕ → Option ℕ → Type 0
Covers kept None = Unit {0}
Covers kept (Some value) = IsNoted kept value

-- Since a note was left the bell was rung; or it is kept.
abbrev pub IsRungOrKept : Known → Known → Type 0
IsRungOrKept note pen = (note.rings < pen.rings) ⊎ ((note.rings ≤ pen.rings) × Covers pen.least note.least)

-- The word isn't below the value that it started with, nor below what any seat knows; one seat writes
-- it, and knows it. What is kept of notes is above it, and each note is kept or was rung for.
pub record IsRising {S : Type 0} (initial : ℕ) (s : State S Known) : Type 0 where
  pub wide : length s.words ≡ 1
  pub from : initial ≤ slice_index s.words 0
  pub below : (i : ℕ) (v : Known) → get_elem? s.views i ≡ some v → v.floor ≤ slice_index s.words 0
  pub written : (i : ℕ) (v : Known) → get_elem? s.views i ≡ some v → v.role ≡ 1 → v.floor ≡ slice_index s.words 0
  pub one : (i k : ℕ) (v w : Known) → get_elem? s.views i ≡ some v → get_elem? s.views k ≡ some w →
      v.role ≡ 1 → w.role ≡ 1 → i ≡ k
  pub above : (i : ℕ) (v : Known) → get_elem? s.views i ≡ some v → v.role ≡ 1 → IsAbove v.least (slice_index s.words 0)
  pub rung : (i k : ℕ) (v w : Known) → get_elem? s.views i ≡ some v → get_elem? s.views k ≡ some w →
      v.role ≡ 2 → w.role ≡ 1 → IsRungOrKept v w

-- a read finds no less than what was known, and knows what it finds
abbrev pub looked : {S : Type 0} → Table.Step S → Me S Known → ℕ → Me S Known → Type 0
looked st m n m' = (m.0.floor ≤ n) × (m' ≡ (reads n, []))

abbrev pub raised : {S : Type 0} → Table.Step S → Me S Known → ℕ → Me S Known → Type 0
raised st m n m' = m' ≡ (pen_at n m.0.least m.0.rings, [])

-- once the bell was rung, nothing is kept
abbrev pub cleared : {S : Type 0} → Table.Step S → Me S Known → ℕ → Me S Known → Type 0
cleared st m n m' = m' ≡ (pen_at n None (m.0.rings + 1), [])

-- the rings of which it is known
abbrev pub rings_of : Heard → ℕ
rings_of h = h.seat.me.0.rings

abbrev pub rings_said : maybe.Option Heard → ℕ
rings_said none = 0
rings_said (some h) = rings_of h

abbrev pub left : Table.Step Heard → Me Heard Known → ℕ → Me Heard Known → Type 0
left st m n m' = m' ≡ (pen_at m.0.floor (Some st.first) (rings_said st.said), [])
