-- What writing does to the bytes that a sink was given, where the sink tells them.
-- What was written is `Some` of a list, or `None` where the sink doesn't tell it.
-- `Appends`, `Stays` and `AppendsPart` speak of a call at whose end the bytes are told; they were then told at its
-- start too.
use Rattle.std.specs.Prelude.{◌≡◌, ℕ, ◌+◌, ◌<◌, ◌≤◌, List, ◌++◌, length, take, Some, IfSome}
use Rattle.std.specs.Prelude.{OnSome, IsSome, IsSomeAnd}
use Rattle.std.specs.declared.option.Option.{Option}

-- What was written grew by these bytes at its end.
abbrev pub Appends : List ℕ → Option (List ℕ) → Option (List ℕ) → Type 0
Appends bytes before now = IfSome now (λ all. IsSomeAnd before (λ earlier. all ≡ earlier ++ bytes))

-- What was written stayed as it was.
abbrev pub Stays : Option (List ℕ) → Option (List ℕ) → Type 0
Stays before now = IfSome now (λ all. before ≡ Some all)

-- What was written grew by a first part of these bytes, and not by all of them.
abbrev pub AppendsPart : List ℕ → Option (List ℕ) → Option (List ℕ) → Type 0
AppendsPart bytes before now = (count : ℕ) × (count < length bytes) × Appends (take count bytes) before now

-- A sink that told its bytes, and was sure to tell so many more, tells them after those too, and is sure of what
-- is then left of its room.
abbrev pub StillTells : ℕ → Option (List ℕ) → Option (List ℕ) → ℕ → ℕ → Type 0
StillTells count before now room_before room_now =
    OnSome before (count ≤ room_before → IsSome now × (room_before ≤ room_now + count))
