-- The bytes that the commands of a plan read and write.
use Rattle.std.specs.Prelude.{ℕ, ◌≡◌, ◌<◌, ◌≤◌, ◌+◌, ◌==◌, ◌&&◌, ◌||◌, min, max}
use Rattle.std.specs.Prelude.{nat_lt, Bool, true, false, List}
use Rattle.std.specs.Prelude.{length, Option, Some, None, option_map}
use Rattle.std.specs.List.{slice_get, slice_index_or}
use Rattle.std.specs.Option.{option_map_or}
use Rattle.vq_model.specs.declared.script.Command.{Command}
use Rattle.vq_model.specs.LoweredPlans.{IsPlan}
use Rattle.vq_model.specs.Plan.{Plan, command_at}
use Rattle.vq_model.specs.Races.{IsRace}
use Rattle.vq_model.specs.declared.ranges.Range.{Range}
use Rattle.vq_model.specs.Ranges.{written_range, read_range}
use Rattle.vq_order.specs.declared.races.accesses.Span.{Span}
use Rattle.vq_order.specs.declared.races.accesses.MemoryAccess.{MemoryAccess}
use Rattle.vq_order.specs.Swept.{AreInOrder, IsOfJob}

abbrev pub span_of : Range → Span
span_of r = record { buffer = r.buffer; start = r.start; end = r.start + r.size }

-- two ranges have a byte in common
abbrev pub spans_share : Span → Span → Bool
spans_share a b = (a.buffer == b.buffer) && nat_lt (max a.start b.start) (min a.end b.end)

-- one of two commands writes a byte that the other one reads or writes
abbrev pub accesses_conflict : MemoryAccess → MemoryAccess → Bool
accesses_conflict a b =
    spans_share a.written b.written
    || option_map_or (spans_share a.written) b.read false
    || option_map_or (spans_share b.written) a.read false

-- what a command reads and writes, and its job
pub record IsAccess (p : Plan) (c : ℕ) (a : MemoryAccess) : Type 0 where
  pub number : a.by.command ≡ c
  pub of_job : IsOfJob p a.by
  pub command : Command
  pub found : command_at p c ≡ Some command
  pub writes : a.written ≡ span_of (written_range p.sizes command)
  pub reads : a.read ≡ option_map span_of (read_range command)

-- the accesses of the first commands
pub record AreAccesses (p : Plan) (accesses : List MemoryAccess) : Type 0 where
  pub plan : IsPlan p
  pub within : length accesses ≤ length p.commands
  pub each : (c : ℕ) (a : MemoryAccess) → slice_get accesses c ≡ Some a → IsAccess p c a

-- commands that conflict and are not in order
pub record RaceBy (p : Plan) (a b : MemoryAccess) : Type 0 where
  pub conflict : accesses_conflict a b ≡ true
  pub apart : ¬ AreInOrder p a.by b.by

abbrev pub access_in : List MemoryAccess → ℕ → MemoryAccess
access_in accesses c =
    slice_index_or accesses c (record {
      by = record { job = 0; command = 0 };
      written = record { buffer = 0; start = 0; end = 0 };
      read = None;
    })

-- the first command with a lower number that races with a command, or none
abbrev pub IsFirstRacing : Plan → List MemoryAccess → ℕ → Option ℕ → Type 0
IsFirstRacing p xs d None = (a : ℕ) → a < d → ¬ RaceBy p (access_in xs a) (access_in xs d)
IsFirstRacing p xs d (Some c) =
    (c < d)
    × RaceBy p (access_in xs c) (access_in xs d)
    × ((a : ℕ) → a < c → ¬ RaceBy p (access_in xs a) (access_in xs d))

-- no two of the first commands race
abbrev pub HasNoRaceBelow : Plan → ℕ → Type 0
HasNoRaceBelow p n = (c d : ℕ) → c < d → d < n → ¬ IsRace p c d

-- the first commands are in order with a command
abbrev pub AreAllInOrder : Plan → List MemoryAccess → ℕ → ℕ → Type 0
AreAllInOrder p xs n d = (a : ℕ) → a < n → AreInOrder p (access_in xs a).by (access_in xs d).by

-- the commands of a job from a number on, below another one, are in order with a command
abbrev pub IsJobInOrder : Plan → List MemoryAccess → ℕ → ℕ → ℕ → ℕ → Type 0
IsJobInOrder p xs job from end d =
    (a : ℕ) → from ≤ a → a < end → (access_in xs a).by.job ≡ job →
    AreInOrder p (access_in xs a).by (access_in xs d).by

-- the first commands are in order with each further command of a job
abbrev pub IsQuiet : Plan → List MemoryAccess → ℕ → ℕ → Type 0
IsQuiet p xs n job =
    (d : ℕ) → n ≤ d → d < length xs → (access_in xs d).by.job ≡ job → AreAllInOrder p xs n d
