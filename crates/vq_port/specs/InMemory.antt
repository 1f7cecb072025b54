-- What callers see of the sources and sinks in memory. Calls are numbered from 1.
use Rattle.std.specs.Prelude.{ℕ, ◌+◌, ◌-◌, List, ◌++◌, length, Some, None, Contains, nat_le}
use Rattle.std.specs.Prelude.{if◌then◌else◌}
use Rattle.std.specs.declared.option.Option.{Option}
use Rattle.vq_port.specs.Faults.{one_more}

-- The calls of a port so far: the numbers of those that are to fail, how many were made, and how many failed.
pub record CallState : Type 0 where
  pub fails : List ℕ
  pub calls : ℕ
  pub faults : ℕ

-- A source in memory: the bytes that are left, the most that a call moves, the numbers of the calls that are to
-- fail, how many calls were made, and how many failed.
pub record SourceState : Type 0 where
  pub left : List ℕ
  pub piece : ℕ
  pub fails : List ℕ
  pub calls : ℕ
  pub faults : ℕ

-- A sink in memory: the bytes that were written, the most that a call moves, the numbers of the calls that are to
-- fail, how many calls were made, and how many failed.
pub record SinkState : Type 0 where
  pub written : List ℕ
  pub piece : ℕ
  pub fails : List ℕ
  pub calls : ℕ
  pub faults : ℕ

-- The bytes that a store holds, and how many it can hold.
pub record StoreState : Type 0 where
  pub bytes : List ℕ
  pub room : ℕ

-- A sink that never fails: the bytes that were written, or `None` once there were more than its room, and the room.
pub record SteadyState : Type 0 where
  pub written : Option (List ℕ)
  pub room : ℕ

-- The room of a sink in memory, in bytes.
abbrev pub sink_room : ℕ
sink_room = 8388608

-- The next call is one of those that are to fail.
abbrev pub IsNamed : List ℕ → ℕ → Type 0
IsNamed fails calls = Contains fails (one_more calls)

-- What a steady sink tells after these bytes: those before and these where all fit its room, and else nothing more.
abbrev pub told_after : Option (List ℕ) → ℕ → List ℕ → Option (List ℕ)
told_after None room bytes = None
told_after (Some earlier) room bytes =
    if nat_le (length earlier + length bytes) room then Some (earlier ++ bytes) else None

-- How many more bytes fit the room of a steady sink, while it tells them.
abbrev pub room_left : Option (List ℕ) → ℕ → ℕ
room_left None room = 0
room_left (Some earlier) room = room - length earlier
