-- What is true of what lies under a timeline's lock. This project's own.
use Rattle.std.specs.Prelude.{ℕ, Bool, true, false, Option, Some, None, ◌≡◌, ◌<◌, ◌≤◌}
use Rattle.vq_live.specs.Live.{KeepsLive}
use Rattle.vq_live_lock.specs.declared.bell.Bell.{Bell}
use Rattle.vq_live_lock.specs.declared.gauge.Gauge.{Gauge}
use Rattle.vq_live_lock.specs.declared.kept.Kept.{Kept}
use Rattle.vq_live_lock.specs.declared.kept.Home.{Home}
use Rattle.vq_live_lock.specs.Gauges.{IsAbove}
use Rattle.vq_live_lock.specs.Named.{IsHeardOf, IsPenOf}

-- Those whose value is reached are rung for, and only then: a note at or below the payload is cleared with a ring, and
-- one above it stays without.
abbrev pub IsRungFor : Option ℕ → ℕ → Bool → Option ℕ → Type 0
IsRungFor None payload rings after = (rings ≡ false) × (after ≡ None)
IsRungFor (Some least) payload true after = (least ≤ payload) × (after ≡ None)
IsRungFor (Some least) payload false after = (payload < least) × (after ≡ Some least)

-- The pen has this value, and its keeper knows of at least as many rings as the pen.
abbrev pub IsKeptAt : Gauge → Bell → Kept → ℕ → Type 0
IsKeptAt g b x n = (r : ℕ) × (k : ℕ) × IsPenOf g x.pen n x.least r × IsHeardOf b x.heard k × (r ≤ k)

-- The timeline keeps its law, the gauge shows its payload, and no note is left of a value that is reached.
abbrev pub IsShown : Gauge → Bell → Kept → Type 0
IsShown g b x = KeepsLive x.timeline × IsKeptAt g b x x.timeline.payload × IsAbove x.least x.timeline.payload

-- While the lock is taken, the gauge may be behind.
abbrev pub IsHeld : Gauge → Bell → Kept → Type 0
IsHeld g b x = KeepsLive x.timeline × ((n : ℕ) × IsKeptAt g b x n × (n ≤ x.timeline.payload))

abbrev pub IsAtHome : Home → Kept → Type 0
IsAtHome h x = IsShown h.gauge.value h.bell.value x
