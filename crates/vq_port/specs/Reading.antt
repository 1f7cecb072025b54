-- What reading does to the bytes that a source has left, where the source tells them.
-- What is left is `Some` of a list, or `None` where the source doesn't tell it.
use Rattle.std.specs.Prelude.{◌≡◌, ℕ, ◌≤◌, List, [], ◌++◌, length, IfSome, IsSomeAnd}
use Rattle.std.specs.declared.option.Option.{Option}

-- These bytes were taken from the front of what was left, and what is left now is told too.
abbrev pub Takes : List ℕ → Option (List ℕ) → Option (List ℕ) → Type 0
Takes bytes before now = IfSome before (λ all. IsSomeAnd now (λ rest. all ≡ bytes ++ rest))

-- Some bytes were taken from the front of what was left, this many at the most.
abbrev pub TakesAtMost : ℕ → Option (List ℕ) → Option (List ℕ) → Type 0
TakesAtMost most before now = (bytes : List ℕ) × (length bytes ≤ most) × Takes bytes before now

-- Nothing is left, where that is told.
abbrev pub IsAtEnd : Option (List ℕ) → Type 0
IsAtEnd now = IfSome now (λ rest. rest ≡ [])
