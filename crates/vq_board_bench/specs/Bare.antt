-- A table whose rule says nothing. This project's own.
use Rattle.std.specs.Prelude.{ℕ}
use Rattle.atomic_table.specs.Table.{State, Step, Me}

-- the rule
abbrev pub anything : ℕ → State ℕ ℕ → Type 0
anything key s = Unit {0}

-- what a step tells
abbrev pub nothing : Step ℕ → Me ℕ ℕ → ℕ → Me ℕ ℕ → Type 0
nothing st m n m' = Unit {0}
