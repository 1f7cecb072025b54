-- The place of an operation among those of a live timeline, which private functions find.
use Rattle.std.specs.Prelude.{ℕ, ◌≡◌, ◌<◌, ◌≤◌, None, Some, length, take}
use Rattle.std.specs.List.{insert, remove, slice_get}
use Rattle.vq_live.specs.declared.answers.Given.{Given}
use Rattle.vq_live.specs.Live.{Live, pending}
use Rattle.vq_live.specs.Calls.{take_fault, cancel_fault, placed, without}

-- the place where one with this value is put, and none has it
pub record IsPlace (t : Live) (value place : ℕ) : Type 0 where
  pub fine : take_fault t value ≡ None
  pub bound : place ≤ length t.ops
  -- what is pending stays in front of it
  pub before : (point : ℕ) → take t.installed (placed (record { value = value; point = point }) t.ops) ≡ pending t
  pub inserted : (point : ℕ) →
      insert t.ops place (record { value = value; point = point })
      ≡ placed (record { value = value; point = point }) t.ops

-- the place of a taken one
pub record IsTakenAt (t : Live) (given : Given) (place : ℕ) : Type 0 where
  pub fine : cancel_fault t given ≡ None
  pub beyond : t.installed ≤ place
  pub bound : place < length t.ops
  pub there : slice_get t.ops place ≡ Some given
  pub removed : remove t.ops place ≡ without given t.ops
