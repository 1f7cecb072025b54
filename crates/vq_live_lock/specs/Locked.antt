-- A locked timeline and its guard, as contracts name them. This project's own.
use Rattle.std.specs.Prelude.{ℕ, List, [], ◌∷◌, ◌≡◌, ◌≤◌}
use Rattle.std.specs.Arc.{arc_value}
use Rattle.vq_live.specs.Live.{Live, opened}
use Rattle.vq_lock.specs.Named.{Has}
use Rattle.vq_live_lock.specs.declared.bell.Bell.{Bell}
use Rattle.vq_live_lock.specs.declared.gauge.Reached.{Reached}
use Rattle.vq_live_lock.specs.declared.kept.Kept.{Kept}
use Rattle.vq_live_lock.specs.declared.locked.LockedLive.{LockedLive}
use Rattle.vq_live_lock.specs.declared.locked.LiveGuard.{LiveGuard}
use Rattle.vq_live_lock.specs.Keeping.{IsShown, IsHeld}
use Rattle.vq_live_lock.specs.Named.{Shows, initial_of}

-- the value that a timeline started with
abbrev pub started_with : LockedLive → ℕ
started_with t = initial_of t.gauge

-- the timeline rings this bell
abbrev pub IsOn : Bell → LockedLive → Type 0
IsOn b t = (arc_value t.bell).table.shared.table_id ≡ b.table.shared.table_id

-- a read of the timeline found just this value, and this shows it
abbrev pub IsReadAs : LockedLive → Reached → ℕ → Type 0
IsReadAs t r value = Shows t.gauge r value

-- It shows that the timeline reached this value: a read of it found the value, or more.
abbrev pub HasReached : LockedLive → Reached → ℕ → Type 0
HasReached t r value = (n : ℕ) × Shows t.gauge r n × (value ≤ n)

-- the timeline that a guard has; one that wasn't used where it has none
abbrev pub first_content : List (ℕ × Kept) → Live
first_content [] = opened 0
first_content (x ∷ xs) = x.1.timeline

abbrev pub timeline_of : LiveGuard → Live
timeline_of g = first_content g.guard.seat.me.1

-- the guard is the timeline's, whose payload all see
abbrev pub IsFree : LockedLive → LiveGuard → Type 0
IsFree t g = (x : Kept) × Has t.lock g.guard x × IsShown t.gauge (arc_value t.bell) x

-- the guard is the timeline's; calls may have raised the payload since the lock was taken
abbrev pub IsTaken : LockedLive → LiveGuard → Type 0
IsTaken t g = (x : Kept) × Has t.lock g.guard x × IsHeld t.gauge (arc_value t.bell) x
