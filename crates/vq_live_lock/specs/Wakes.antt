-- That no wake is lost: who sleeps for a value that is reached sleeps on a count of rings that is past. This project's
-- own.
use Rattle.std.specs.Prelude.{ℕ, ◌≡◌, ◌≢◌, ◌≤◌, ◌<◌, ◌-◌, ◌%◌, ◌^◌, slice_index}
use mathlib.Core.Option.{some}
use lib.ListN.{get_elem?}
use Rattle.atomic_table.specs.Table.{State}
use Rattle.vq_live_lock.specs.declared.bell.Heard.{Heard}
use Rattle.vq_live_lock.specs.declared.counting.Times.{Times}
use Rattle.vq_live_lock.specs.declared.rule.Known.{Known}
use Rattle.vq_live_lock.specs.Gauges.{IsRising, note_at}
use Rattle.vq_live_lock.specs.Rings.{IsCounted}

-- A gauge and its bell at one moment. Each keeps its rule, and who has the pen knows of at least as many rings as the
-- pen: so it is while the lock is free (IsShown), and in each call under it (IsHeld).
pub record AreTogether (initial : ℕ) (g : State Heard Known) (b : State (Unit {0}) Times) : Type 0 where
  pub gauge : IsRising initial g
  pub bell : IsCounted b
  pub place : ℕ
  pub pen : Known
  pub is_pen : get_elem? g.views place ≡ some pen
  pub writes : pen.role ≡ 1
  pub seat : ℕ
  pub heard : Times
  pub is_heard : get_elem? b.views seat ≡ some heard
  pub knows : pen.rings ≤ heard.rings

-- a note was left for this value, since the bell was rung so often
abbrev pub IsNotedSince : State Heard Known → ℕ → ℕ → Type 0
IsNotedSince g value rings = (i : ℕ) × (n : ℕ) × (get_elem? g.views i ≡ some (note_at n value rings))

-- The bell was rung since it had been rung so often. Who compares the lower 32 bits sees it, unless it was rung 2^32
-- times since, or a multiple of that.
abbrev pub HasRungSince : State (Unit {0}) Times → ℕ → Type 0
HasRungSince b rings =
    (total : ℕ) × (slice_index b.words 0 ≡ total % 2 ^ 64) × (rings < total)
    × ((total - rings) % 2 ^ 32 ≢ 0 → slice_index b.words 0 % 2 ^ 32 ≢ rings % 2 ^ 32)

-- where a value is shown for which a note was left, the bell was rung since
abbrev pub LosesNoWake : Type 0
LosesNoWake =
    (initial value rings : ℕ) (g : State Heard Known) (b : State (Unit {0}) Times) → AreTogether initial g b →
    IsNotedSince g value rings → value ≤ slice_index g.words 0 → HasRungSince b rings
